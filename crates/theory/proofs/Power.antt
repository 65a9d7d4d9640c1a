-- Powers: the laws of exponents by induction, and the powers of an element of high order as points.
use mathlib.Core.Path.{◌≡◌, refl, sym, ap, ◌∙◌}
use mathlib.Core.Logic.{◌≢◌}
use Prim.Native.Nat.{ℕ, zero, suc, ◌+◌, ◌-◌, ◌*◌, ◌<◌}
use native.Mathlib.Omega.{arith}
use native.Mathlib.Nat.{zero-add as +-zero-left, suc-add as +-suc-left, mul_comm as *-comm}
use Rattle.theory.specs.Field.{Field}
use Rattle.theory.specs.Word.{pow}
use Rattle.theory.specs.Code.{Points}
use Rattle.theory.proofs.Field.{ring, mul-one, mul-cancel, mul-ne-zero, eq-of-add}
use Rattle.theory.proofs.Place.{wlog}

module _ (K : Field) where
  open K use {F, 𝟎, 𝟏, add as ◌⊕◌, mul as ◌⊗◌}

  infixl 65 ◌⊕◌
  infixl 70 ◌⊗◌
  pub pow-zero : (x : F) → pow K x 0 ≡ 𝟏
  unfolding pow
  pow-zero x = refl

  pub pow-suc : (x : F) (j : ℕ) → pow K x (suc j) ≡ x ⊗ pow K x j
  unfolding pow
  pow-suc x j = refl

  pub pow-ne-zero : (x : F) (j : ℕ) → x ≢ 𝟎 → pow K x j ≢ 𝟎
  unfolding pow
  pow-ne-zero x zero m = K.one_ne_zero
  pow-ne-zero x (suc j) m = mul-ne-zero K x (pow K x j) m (pow-ne-zero x j m)

  pub pow-add : (x : F) (i j : ℕ) → pow K x (i + j) ≡ pow K x i ⊗ pow K x j
  pow-add x zero j = simp (pow-zero, +-zero-left, ring)
  pow-add x (suc i) j = simp (+-suc-left, pow-suc, pow-add x i j, ring)

  pub pow-mul : (x : F) (i j : ℕ) → pow K (pow K x i) j ≡ pow K x (i * j)
  pow-mul x i zero = pow-zero _ ∙ sym (pow-zero x) ∙ ap (pow K x) (omega arith)
  pow-mul x i (suc j) = pow-suc _ j ∙ rw (pow-mul x i j, ← (pow-add x i (i * j))) (ap (pow K x) (omega arith))

  pub pow-swap : (x : F) (i j : ℕ) → pow K (pow K x i) j ≡ pow K (pow K x j) i
  pow-swap x i j = pow-mul x i j ∙ ap (pow K x) (*-comm i j) ∙ sym (pow-mul x j i)

  pow_apart : (α : F) (n : ℕ) → α ≢ 𝟎 → ((k : ℕ) → 0 < k → k < n → pow K α k ≢ 𝟏) → (i d : ℕ) → suc (i + d) < n
      → pow K α i ≢ pow K α (i + suc d)
  pow_apart α n a h i d l e =
      h (suc d) (omega arith) (omega arith)
      (eq-of-add K _ _
      (mul-cancel K (pow K α i) (pow K α (suc d) ⊕ 𝟏) (pow-ne-zero α i a)
      (K.distr _ _ _ ∙ rw (← (pow-add α i (suc d)), ← e, mul-one) (K.add_self _))))

  -- the powers of an element of order n at least are n points
  pub points-pow : (α : F) (n : ℕ) → α ≢ 𝟎 → ((k : ℕ) → 0 < k → k < n → pow K α k ≢ 𝟏) → Points K (pow K α) n
  points-pow α n a h =
      record { distinct = wlog (λ i j. pow K α i ≢ pow K α j) n (λ i j d e. d (sym e)) up; nonzero = λ i l. pow-ne-zero α i a }
    where
      up : (i j : ℕ) → i < j → j < n → pow K α i ≢ pow K α j
      up i j l m =
          let q : i + suc (j - suc i) ≡ j = omega arith in
          rw q at (pow_apart α n a h i (j - suc i) (omega arith))
