-- The sum of the multiples that a number's digits ask for is the product: digit i asks for the factor times x ^ i.
use mathlib.Core.Path.{◌≡◌, refl, sym, ap, ap₂, ◌∙◌}
use mathlib.Core.List.{List}
use Prim.Native.Nat.{ℕ, zero, suc, ◌+◌, ◌*◌, ◌/◌, ◌%◌, ◌^◌, ◌<◌}
use native.Mathlib.Nat.{le_of_suc-le-suc, not-suc-le-zero, div-div-eq-div-mul, pow-suc}
use native.Mathlib.Nat as N
use native.Mathlib.Numerals.{add-one}
use native.Mathlib.Omega.{arith}
use lib.ListN.{length, get_or, set}
use lib.Seq.{ext_get_or, get_or-set_same, get_or-set_other}
use Rattle.theory.proofs.Place.{at-or}
use Rattle.gf.specs.Field.{Modulus, width, size, ◌⊕◌, times_x, shift, act, mul}
use Rattle.gf.specs.Digits.{multiples}
use Rattle.gf.proofs.Xor.{zero_right, add_assoc}
use Rattle.gf.proofs.Ring.{shift_zero, shift_suc, shift_in, mul_comm}

-- the sum of the first n elements of t whose digit of a is set, as the code computes it
unfoldable pub combined : ℕ → List ℕ → ℕ → ℕ
combined zero t a = 0
combined (suc n) t a = combined n t a ⊕ (a / 2 ^ n % 2 * get_or t n 0)

pub combined_none : (t : List ℕ) (a : ℕ) → 0 ≡ combined 0 t a
unfolding combined
combined_none t a = refl

pub combined_more : (n : ℕ) (t : List ℕ) (a s : ℕ) → s ≡ combined n t a → s ⊕ (a / 2 ^ n % 2 * get_or t n 0) ≡ combined (n + 1) t a
unfolding combined
combined_more n t a s e = rw (e, add-one n)

pub combined_at : (n j : ℕ) (t : List ℕ) (a s : ℕ) → j ≡ n → s ≡ combined n t a → s ⊕ (a / 2 ^ n % 2 * get_or t j 0) ≡ combined (n + 1) t a
combined_at n j t a s q e = rw q (combined_more n t a s e)

halves : (n a : ℕ) → a / 2 / 2 ^ n ≡ a / 2 ^ suc n
halves n a = div-div-eq-div-mul a 2 (2 ^ n) ∙ ap (λ (x : ℕ). a / x) (N.mul_comm 2 (2 ^ n) ∙ sym (pow-suc 2 n))

-- one element more is stored
pub stored_more : (g : ℕ → ℕ) (i : ℕ) (t : List ℕ) (x : ℕ) → i < length t → x ≡ g i → ((k : ℕ) → k < i → get_or t k 0 ≡ g k) → (k : ℕ) → k < i + 1 → get_or (set t i x) k 0 ≡ g k
stored_more g i t x h e done k lt =
    at-or k i (λ q. rw q (get_or-set_same t i x 0 h ∙ e)) (λ d. get_or-set_other t i k x 0 d ∙ done k (omega arith))

module _ (F : Modulus) where
  multiples-at : (n v j : ℕ) → j < n → get_or (multiples F n v) j 0 ≡ shift F j v
  unfolding multiples
  multiples-at zero v j h = absurd (not-suc-le-zero h)
  multiples-at (suc n) v zero h = sym (shift_zero F v)
  multiples-at (suc n) v (suc j) h = multiples-at n (times_x F v) j (le_of_suc-le-suc h) ∙ shift_in F j v

  multiples-length : (n v : ℕ) → length (multiples F n v) ≡ n
  unfolding multiples
  multiples-length zero v = refl
  multiples-length (suc n) v = ap suc (multiples-length n (times_x F v))

  -- a list of these elements is that of the multiples
  pub multiples-are : (n v : ℕ) (t : List ℕ) → length t ≡ n → ((j : ℕ) → j < n → get_or t j 0 ≡ shift F j v) → t ≡ multiples F n v
  multiples-are n v t e h =
      ext_get_or 0 t (multiples F n v) (e ∙ sym (multiples-length n v)) (λ j k. let lt : j < n = omega arith in h j lt ∙ sym (multiples-at n v j lt))

  pub shift-more : (i v next y : ℕ) → next ≡ shift F i v → y ≡ times_x F next → y ≡ shift F (i + 1) v
  shift-more i v next y e q = q ∙ rw (e, add-one i) (sym (shift_suc F i v))

  -- one digit more
  act-more : (n a v : ℕ) → act F (suc n) a v ≡ act F n a v ⊕ (a / 2 ^ n % 2 * shift F n v)
  unfolding act
  act-more zero a v =
      let q : a / 2 ^ 0 ≡ a = omega arith in
      zero_right (a % 2 * v) ∙ ap₂ (λ (x y : ℕ). x % 2 * y) (sym q) (sym (shift_zero F v))
  act-more (suc n) a v =
      ap (λ (x : ℕ). (a % 2 * v) ⊕ x) (act-more n (a / 2) (times_x F v))
      ∙ sym (add_assoc (a % 2 * v) (act F n (a / 2) (times_x F v)) (a / 2 / 2 ^ n % 2 * shift F n (times_x F v)))
      ∙ ap₂ (λ (x y : ℕ). (a % 2 * v) ⊕ act F n (a / 2) (times_x F v) ⊕ (x % 2 * y)) (halves n a) (shift_in F n v)

  combined-act : (n : ℕ) (t : List ℕ) (a v : ℕ) → ((j : ℕ) → j < n → get_or t j 0 ≡ shift F j v) → combined n t a ≡ act F n a v
  unfolding combined act
  combined-act zero t a v e = refl
  combined-act (suc n) t a v e = ap₂ (λ (x y : ℕ). x ⊕ (a / 2 ^ n % 2 * y)) (combined-act n t a v (λ j h. e j (omega arith))) (e n (omega arith)) ∙ sym (act-more n a v)

  pub combined-is : (t : List ℕ) (a f s : ℕ) → s ≡ combined (width F) t a → t ≡ multiples F (width F) (f % size F) → s ≡ mul F f a
  unfolding mul
  combined-is t a f s q e =
      q ∙ combined-act (width F) t a (f % size F) (λ j h. rw e (multiples-at (width F) (f % size F) j h))
      ∙ mul_comm F a f
