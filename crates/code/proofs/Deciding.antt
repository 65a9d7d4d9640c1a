-- How decoding ends: the word is judged by its power sums; one that was corrected at the places found is near, and it is the only one
-- that can be a code word near the word before.
use mathlib.Core.Path.{◌≡◌, refl, sym, ap, ap₂, ◌∙◌}
use mathlib.Core.Logic.{◌⊎◌, inl, inr}
use mathlib.Core.List.{List}
use Prim.Native.Nat.{ℕ, zero, suc, ◌+◌, ◌≤◌, ◌<◌}
use native.Mathlib.Omega.{arith}
use lib.ListN.{length, get_or, take}
use lib.Seq.{ext_get_or, get_or-take}
use borrow.Author.Tests.{eq-eqb}
use Rattle.theory.specs.Word.{Places, Off}
use Rattle.theory.proofs.Field.{add-self}
use Rattle.theory.proofs.Place.{find-place}
use Rattle.theory.proofs.Weight.{wt-max, wt-along}
use Rattle.gf.specs.Field.{Modulus, width, ◌⊕◌, size, alpha}
use Rattle.gf.proofs.Xor.{add_assoc, add-lt, zero_right, add-self as xor_self}
use Rattle.gf.proofs.Cyclic.{Cyclic}
use Rattle.gf.proofs.Elements.{el, plus}
use Rattle.code.specs.Words.{sum_of, apart, CodeWord}
use Rattle.code.specs.Decoding.{Near}
use Rattle.code.specs.Stages.{Elements, AllZero, PowerSums, Summed, Suspects, Values, Added, brought}
use Rattle.code.proofs.Bridge.{K, word, sum_lt, apart-wt}
use Rattle.code.proofs.Locating.{summed-at}
use Rattle.code.proofs.Settling.{value_sum, brought-sum, added-sum}

-- ---- the word, judged by its power sums
module _ (F : Modulus) (n t : ℕ) (sums y : List ℕ) (two : length sums ≡ t + t) (S : Summed F n sums y) where
  pub code-word : AllZero sums → CodeWord F n (t + t) y
  code-word Z =
      record {
        long = S.long;
        small = λ i h. S.small.small i (omega (arith, S.long));
        sums = λ j h. sym (summed-at F n sums y S j (omega arith)) ∙ Z.zero_at j (omega arith);
      }

  pub zero-sums : CodeWord F n (t + t) y → AllZero sums
  zero-sums C = record { zero_at = λ j h. summed-at F n sums y S j h ∙ C.sums j (omega arith) }

-- sums are elements
pub sums-small : (F : Modulus) (y : List ℕ) (from : ℕ) (sums : List ℕ) → PowerSums F y from sums → Elements F sums
sums-small F y from sums P = record { small = λ j h. rw (P.is j h) (sum_lt F _ _ _) }

-- the values are the first numbers of a list
pub first-values : (F : Modulus) (n : ℕ) (sums places l : List ℕ) → Values F n sums places l → Values F n sums places (take (length places) l)
first-values F n sums places l V =
    record {
      small = λ k h. rw (get_or-take (length places) l k 0 h) (V.small k h);
      right = λ t y c two Y N k h. rw (get_or-take (length places) l k 0 h) (V.right t y c two Y N k h);
    }

-- ---- words that differ at r places only
apart-same : (n : ℕ) (a : List ℕ) → apart n a a ≤ 0
unfolding apart
apart-same zero a = omega arith
apart-same (suc n) a = rw (eq-eqb (get_or a n 0) (get_or a n 0) refl) (omega (arith, apart-same n a))

apart-few : (F : Modulus) (field : Cyclic F) (n r : ℕ) (p : ℕ → ℕ) (a b : List ℕ) → ((i : ℕ) → i < n → get_or a i 0 < size F) → ((i : ℕ) → i < n → get_or b i 0 < size F) → ((i : ℕ) → i < n → Off r p i → get_or a i 0 ≡ get_or b i 0) → apart n a b ≤ r
apart-few F field n r p a b ha hb e =
    omega (arith, apart-wt F field n a b ha hb, wt-max (K F field) (λ i. (K F field).𝟏) r, wt-along (K F field) r (λ i. (K F field).𝟏) (λ i. plus F (word F field a i) (word F field b i)) n p (λ i h z. ap (λ (x : ℕ). plus F (el F x) (word F field b i)) (e i h (λ j g q. (K F field).one_ne_zero (z j g (sym q)))) ∙ add-self (K F field) (word F field b i)))

-- the word is a code word at once
pub near-itself : (F : Modulus) (n t : ℕ) (sums y : List ℕ) → length sums ≡ t + t → Summed F n sums y → AllZero sums → Near F n t y y
near-itself F n t sums y two S Z = record { code = code-word F n t sums y two S Z; close = omega (arith, apart-same n y) }

-- ---- the word was corrected
module _ (F : Modulus) (n : ℕ) (sums places values y z : List ℕ) (S : Summed F n sums y) (P : Suspects F n sums places) (V : Values F n sums places values) (A : Added places values (length places) y z) (long : length z ≡ length y) where
  -- what holds off the places and at each of them holds everywhere
  each : {T : ℕ → Type 0} → ((k : ℕ) → k < length places → T (get_or places k 0)) → ((i : ℕ) → i < n → Off (length places) (λ k. get_or places k 0) i → T i) → (i : ℕ) → i < n → T i
  each {T} on off i h = go (find-place (length places) (λ k. get_or places k 0) i)
    where
      go : ((k : ℕ) × (k < length places) × (i ≡ get_or places k 0)) ⊎ Off (length places) (λ k. get_or places k 0) i → T i
      go (inl (k, g, q)) = rw q (on k g)
      go (inr o) = off i h o

  corrected-small : (i : ℕ) → i < n → get_or z i 0 < size F
  corrected-small =
      each {T = λ i. get_or z i 0 < size F}
      (λ k h. let b = P.below k h in rw (A.there k h) (add-lt (width F) _ _ (S.small.small _ (omega (arith, S.long))) (V.small k h)))
      (λ i h o. rw (A.elsewhere i o) (S.small.small i (omega (arith, S.long))))

  -- a code word near the word is the corrected word
  pub corrected-is : (t : ℕ) → t + t ≡ length sums → (c : List ℕ) → Near F n t y c → z ≡ c
  corrected-is t two c N =
      ext_get_or 0 z c (long ∙ S.long ∙ sym N.code.long)
      (λ i h. each {T = λ i. get_or z i 0 ≡ get_or c i 0}
      (λ k g. A.there k g ∙ sym (V.right t y c two S N k g))
      (λ i g o. A.elsewhere i o ∙ sym (P.errors t y c two S N i g o)) i (omega (arith, S.long)))

  -- its power sums
  pub corrected-summed : (field : Cyclic F) (points sums' : List ℕ) → length points ≡ length places → length sums' ≡ length sums → ((k : ℕ) → k < length places → get_or points k 0 ≡ alpha F (get_or places k 0))
      → ((j : ℕ) → j < length sums → get_or sums' j 0 ≡ get_or sums j 0 ⊕ brought F values points (1 + j)) → Summed F n sums' z
  corrected-summed field points sums' many same there added =
      record {
        long = long ∙ S.long;
        small = record { small = λ i h. corrected-small i (omega (arith, S.long)) };
        sums_are = record {
          is = λ j h.
              let g : j < length sums = omega arith in
              let w : length z ≡ n = long ∙ S.long in
              added j g ∙ rw (w, S.sums_are.is j g, S.long)
              (ap₂ ◌⊕◌ (added-sum F field n (length places) (λ i. get_or y i 0) (λ i. get_or z i 0) (λ k. get_or values k 0) (λ k. get_or places k 0) Q A.there (λ i h o. A.elsewhere i o) (1 + j)) (value j)
              ∙ back (sum_of F n (λ i. get_or z i 0) (1 + j)) (value_sum F (length places) (λ k. get_or values k 0) (λ k. get_or places k 0) (1 + j)));
        };
      }
    where
      Q : Places n (length places) (λ k. get_or places k 0)
      Q = record { below = P.below; apart = λ i k h g e. omega (arith, P.rising i k h g) }

      value : (j : ℕ) → brought F values points (1 + j) ≡ value_sum F (length places) (λ k. get_or values k 0) (λ k. get_or places k 0) (1 + j)
      value j = brought-sum F values points (λ k. get_or places k 0) (1 + j) (λ k h. there k (omega arith)) ∙ ap (λ (r : ℕ). value_sum F r (λ k. get_or values k 0) (λ k. get_or places k 0) (1 + j)) many

      back : (a b : ℕ) → a ⊕ b ⊕ b ≡ a
      back a b = add_assoc a b b ∙ ap (λ (x : ℕ). a ⊕ x) (xor_self b) ∙ zero_right a

  pub corrected-near : (field : Cyclic F) (t : ℕ) → t + t ≡ length sums → CodeWord F n (t + t) z → Near F n t y z
  corrected-near field t two C =
      record {
        code = C;
        close = omega (arith, P.few, apart-few F field n (length places) (λ k. get_or places k 0) z y corrected-small (λ i h. S.small.small i (omega (arith, S.long))) (λ i h o. A.elsewhere i o));
      }

  -- added once more, the values go
  pub restored : (y' : List ℕ) → length y' ≡ length z → Added places values (length places) z y' → y' ≡ y
  restored y' same B =
      ext_get_or 0 y' y (same ∙ long)
      (λ i h. each {T = λ i. get_or y' i 0 ≡ get_or y i 0}
      (λ k g. B.there k g ∙ ap (λ (x : ℕ). x ⊕ get_or values k 0) (A.there k g) ∙ back (get_or y (get_or places k 0) 0) (get_or values k 0))
      (λ i g o. B.elsewhere i o ∙ A.elsewhere i o) i (omega (arith, S.long)))
    where
      back : (a b : ℕ) → a ⊕ b ⊕ b ≡ a
      back a b = add_assoc a b b ∙ ap (λ (x : ℕ). a ⊕ x) (xor_self b) ∙ zero_right a
