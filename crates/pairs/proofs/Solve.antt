-- The system for the places I: what a word of [I, GE] is at the places read off below k and at T decides its vector, where W is regular.
-- Which places are read off, A, is a parameter.
use mathlib.Core.Path.{◌≡◌, sym, ap, ◌∙◌}
use Prim.Native.Nat.{ℕ, ◌-◌, ◌<◌}
use native.Mathlib.Omega.{arith}
use Rattle.theory.specs.Field.{Field}
use Rattle.theory.specs.Word.{IsZero, NonZero, unit}
use Rattle.theory.specs.Matrix.{Mat, comb, LeftKer}
use Rattle.theory.proofs.Field.{ring, add-self, add-zero, zero-mul, mul_assoc, eq-of-add, zero-of-not}
use Rattle.theory.proofs.Sum.{sum-ext, sum-mul, sum-mul-right, sum-swap, sum-reindex, sum-unit-right}
use Rattle.pairs.specs.Encoding.{encoded}
use Rattle.pairs.specs.Places.{Split}
use Rattle.pairs.specs.Good.{W, Regular}
use Rattle.pairs.proofs.Encode.{encoded-high, encoded-add}
use Rattle.pairs.proofs.Places.{I-places}

-- W is regular just where it has no left kernel vector that is not zero (8)
module _ (K : Field) (k : ℕ) (ge : Mat K) (u : ℕ) (I T : ℕ → ℕ) where
  pub regular-none : Regular K k ge u I T → (y : ℕ → K.F) → NonZero K u y → LeftKer K u u (W K k ge I T) y → ⊥
  regular-none r y (p, l, d) h = d (r y h p l)

  pub none-regular : ((y : ℕ → K.F) → NonZero K u y → LeftKer K u u (W K k ge I T) y → ⊥) → Regular K k ge u I T
  none-regular n y h i l = zero-of-not K (y i) (λ d. n y (i, l, d) h)

-- where B·M is the unit matrix, y = value·B solves y·M = value
pub inverse-solves : (K : Field) (u : ℕ) (B M : Mat K) → ((b c : ℕ) → b < u → c < u → comb K (B b) M u c ≡ unit K b c)
    → (value : ℕ → K.F) (c : ℕ) → c < u → comb K (comb K value B u) M u c ≡ value c
unfolding comb
inverse-solves K u B M inverse value c l =
    sum-ext K _ _ u (λ a h. sym (sum-mul-right K (M a c) _ u) ∙ sum-ext K _ _ u (λ b q. mul_assoc K _ _ _))
    ∙ sum-swap K (λ a b. K.mul (value b) (K.mul (B b a) (M a c))) u u
    ∙ sum-ext K _ _ u (λ b h. sum-mul K (value b) _ u ∙ ap (K.mul (value b)) (inverse b c h l)) ∙ sum-unit-right K value u c l

module _ (K : Field) (k N : ℕ) (ge : Mat K) (A : ℕ → Type 0) (u : ℕ) (I T : ℕ → ℕ) (S : Split k N A u I T) where
  open K use {F, 𝟎, add as ◌⊕◌, mul as ◌⊗◌}

  infixl 65 ◌⊕◌
  infixl 70 ◌⊗◌
  -- what is zero at the places read off and at those of I is zero
  pub zero-below : (x : ℕ → F) → ((i : ℕ) → i < k → A i → x i ≡ 𝟎) → ((a : ℕ) → a < u → x (I a) ≡ 𝟎) → IsZero K k x
  zero-below x z h i l =
      zero-of-not K (x i)
      (λ d. let (a, b, e) = S.solved.every i (omega arith) l (λ q. d (z i l q)) in
      d (ap x e ∙ h a b))

  -- the word of a vector that is zero at the places read off: at T it is the product with W
  pub encoded-spare : (x : ℕ → F) → ((i : ℕ) → i < k → A i → x i ≡ 𝟎) → (b : ℕ) → b < u
      → encoded K k ge x (T b) ≡ comb K (λ a. x (I a)) (W K k ge I T) u b
  unfolding comb
  encoded-spare x z b l =
      encoded-high K k ge x (T b) (S.high b l)
      ∙ sum-reindex K u (λ i. x i ⊗ ge i (T b - k)) k I (I-places S) (λ i h o. rw (zero-of-not K (x i) (λ d. let (a, q, e) = S.solved.every i (omega arith) h (λ q. d (z i h q)) in o a q e)) (zero-mul K _))

  -- the system as it is solved: `known` has the values read off and is zero at I, y solves y·W = value + known·[I, GE] at T, and x has
  -- the values of both; then its word has the value at each place of T
  pub system-solves : (known y x value : ℕ → F) → ((a : ℕ) → a < u → known (I a) ≡ 𝟎)
      → ((b : ℕ) → b < u → comb K y (W K k ge I T) u b ≡ value b ⊕ encoded K k ge known (T b))
      → ((i : ℕ) → i < k → A i → x i ≡ known i) → ((a : ℕ) → a < u → x (I a) ≡ y a) → (b : ℕ) → b < u
      → encoded K k ge x (T b) ≡ value b
  unfolding comb
  system-solves known y x value off system low high b l =
      eq-of-add K _ _ (group ∙ ap (λ c. c ⊕ (encoded K k ge known (T b) ⊕ value b)) whole ∙ simp ring)
    where
      group : encoded K k ge x (T b) ⊕ value b ≡ encoded K k ge x (T b) ⊕ encoded K k ge known (T b) ⊕ (encoded K k ge known (T b) ⊕ value b)
      group = simp ring

      whole : encoded K k ge x (T b) ⊕ encoded K k ge known (T b) ≡ value b ⊕ encoded K k ge known (T b)
      whole =
          sym (encoded-add K k ge x known (T b))
          ∙ encoded-spare (λ i. x i ⊕ known i) (λ i h q. rw (low i h q) (add-self K _)) b l
          ∙ sum-ext K _ _ u (λ a q. rw (high a q, off a q, add-zero)) ∙ system b l

  module _ (regular : Regular K k ge u I T) where
    -- a word that is zero at the places read off below k and at T is that of zero
    pub decided : (x : ℕ → F) → ((i : ℕ) → i < k → A i → x i ≡ 𝟎) → ((b : ℕ) → b < u → encoded K k ge x (T b) ≡ 𝟎) → IsZero K k x
    decided x z h = zero-below x z (regular (λ a. x (I a)) (λ b q. sym (encoded-spare x z b q) ∙ h b q))

    -- THEOREM (solved, once). Vectors with the same values at the places read off below k, whose words have the same values at T, are
    -- equal.
    pub solved-once : (x y : ℕ → F) → ((i : ℕ) → i < k → A i → x i ≡ y i)
        → ((b : ℕ) → b < u → encoded K k ge x (T b) ≡ encoded K k ge y (T b)) → (i : ℕ) → i < k → x i ≡ y i
    solved-once x y low spare i l =
        eq-of-add K (x i) (y i)
        (decided (λ i. x i ⊕ y i) (λ i h q. rw (low i h q) (add-self K _))
        (λ b h. encoded-add K k ge x y (T b) ∙ rw (spare b h) (add-self K _)) i l)
