-- The generator of the code, by its coefficients (RLCE-KEM specification of September 14, 2017, section 6.1.3, steps 7 and 8).
use Rattle.std.specs.Prelude.{◌≡◌, List, [], ◌∷◌, ℕ, zero, suc, ◌-◌, ◌<◌, ltb, length, get_or}
use Rattle.lists.specs.Loops.{pick, tab}
use Rattle.gf.specs.Field.{Modulus, ◌⊕◌, mul, alpha}

-- the polynomial p times (x - a): x·p is 0 ∷ p, and minus is plus
unfoldable pub with_root : Modulus → ℕ → List ℕ → List ℕ
with_root F a p = tab (suc (length p)) (λ j. get_or (0 ∷ p) j 0 ⊕ mul F a (get_or p j 0))

-- section 6.1.3, step 7: g(x), the product of (x - α^i) for i = 1..s; there s = n - k
unfoldable pub generator : Modulus → ℕ → List ℕ
generator F zero = 1 ∷ []
generator F (suc s) = with_root F (alpha F (suc s)) (generator F s)

-- section 6.1.3, step 8: the matrix G0 is row shifts of the generator. Row i, of n numbers: g, i places further up
unfoldable pub shifted : ℕ → ℕ → List ℕ → List ℕ
shifted n i g = tab n (λ j. pick (ltb j i) 0 (get_or g (j - i) 0))

-- how the code says it: the coefficients l of a polynomial whose last one is 0 became those of its product with (x - a)
pub record TimesRoot (F : Modulus) (a : ℕ) (l l' : List ℕ) : Type 0 where
  pub long : length l' ≡ length l
  pub zeroth : get_or l' 0 0 ≡ mul F a (get_or l 0 0)
  pub next : (i : ℕ) → suc i < length l → get_or l' (suc i) 0 ≡ get_or l i 0 ⊕ mul F a (get_or l (suc i) 0)
