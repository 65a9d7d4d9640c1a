-- W is singular just where the matrix of its elements has a left kernel vector that is not zero.
use mathlib.Core.Path.{◌≡◌, sym, ap, ◌∙◌}
use mathlib.Core.List.{List}
use Prim.Native.Nat.{ℕ, ◌≤◌, ◌<◌}
use native.Mathlib.Omega.{arith}
use native.Mathlib.Decide.{dec_lt}
use lib.Pow.{pow_pos}
use lib.ListN.{length, get_or, get_or-eq_default}
use Rattle.lists.specs.Loops.{tab}
use Rattle.lists.proofs.Tables.{length-tab, get_or-tab, all-tab}
use Rattle.theory.specs.Word.{NonZero}
use Rattle.theory.specs.Matrix.{comb, LeftKer}
use Rattle.theory.proofs.Sum.{sum-ext}
use Rattle.gf.specs.Field.{width, size}
use Rattle.gf.proofs.Elements.{El, times, num-el, el-injective}
use Rattle.sets.specs.declared.Set.{Set}
use Rattle.scheme.specs.Field.{field_of}
use Rattle.scheme.specs.Keys.{Private}
use Rattle.scheme.specs.Sealing.{combined}
use Rattle.scheme.specs.Opening.{places_i, places_t, W, Singular}
use Rattle.pairs.specs.Good as good
use Rattle.pairs.proofs.Solve.{none-regular}
use Rattle.tie.proofs.Bridge.{field, K, E, word, key_of, combined-el, combined-lt}

module _ (s : Set) (κ : Private) where
  abbrev u : ℕ
  u = length (places_i s κ)

  abbrev Wel : ℕ → ℕ → El (field_of s)
  Wel = good.W (K s) s.k (key_of s κ).ge (λ a. get_or (places_i s κ) a 0) (λ b. get_or (places_t s κ) b 0)

  abbrev pub IsRegular : Type 0
  IsRegular =
      good.Regular (K s) s.k (key_of s κ).ge (length (places_i s κ)) (λ a. get_or (places_i s κ) a 0) (λ b. get_or (places_t s κ) b 0)

  -- y·W, as elements
  product-el : (y : List ℕ) (b : ℕ) → E s (combined (field_of s) y u (λ a. W s κ a b)) ≡ comb (K s) (word s y) Wel u b
  unfolding W comb
  product-el y b = combined-el s y u _

  abbrev numbers : (ℕ → El (field_of s)) → List ℕ
  numbers y = tab u (λ i. (y i).0)

  numbers-word : (y : ℕ → El (field_of s)) (i : ℕ) → i < u → word s (numbers y) i ≡ y i
  numbers-word y i h = ap (E s) (get_or-tab u (λ i. (y i).0) i h) ∙ num-el (field_of s) (y i)

  product-numbers : (y : ℕ → El (field_of s)) (b : ℕ) → comb (K s) (word s (numbers y)) Wel u b ≡ comb (K s) y Wel u b
  unfolding comb
  product-numbers y b =
      sum-ext (K s) _ _ u (λ a o. ap (λ (x : El (field_of s)). times (field_of s) x (Wel a b)) (numbers-word y a o))

  pub singular : (y : ℕ → El (field_of s)) → NonZero (K s) u y → LeftKer (K s) u u Wel y → Singular s κ
  singular y (p, l, d) h =
      record {
        y = numbers y;
        long = length-tab u (λ i. (y i).0);
        small = all-tab (λ x. x < size (field_of s)) u (λ i. (y i).0) (pow_pos (width (field_of s))) (λ i. (y i).1);
        place = p;
        nonzero = λ e. d (sym (numbers-word y p l) ∙ ap (E s) e);
        zero = λ b q. el-injective (field_of s) (field s) _ 0 (combined-lt s (numbers y) u _) (pow_pos (width (field_of s))) (product-el (numbers y) b ∙ product-numbers y b ∙ h b q);
      }

  pub regular-el : (Singular s κ → ⊥) → IsRegular
  regular-el none = none-regular (K s) s.k (key_of s κ).ge u _ _ (λ y d h. none (singular y d h))

  pub singular-not : IsRegular → Singular s κ → ⊥
  singular-not r S = S.nonzero (go (dec_lt S.place u))
    where
      kernel : LeftKer (K s) u u Wel (word s S.y)
      kernel b l = sym (product-el S.y b) ∙ ap (E s) (S.zero b l)

      go : Dec (S.place < u) → get_or S.y S.place 0 ≡ 0
      go (yes l) =
          el-injective (field_of s) (field s) _ 0 (S.small S.place) (pow_pos (width (field_of s))) (r (word s S.y) kernel S.place l)
      go (no n) = let h : length S.y ≤ S.place = omega (arith, S.long) in get_or-eq_default S.y 0 h
