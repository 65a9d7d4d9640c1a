-- The code, by its power sums, and its generator (RLCE-KEM specification of September 14, 2017, section 6.1.3, steps 7 and 8).
use Rattle.std.specs.Prelude.{◌≡◌, ◌≢◌, ℕ, zero, suc, ◌-◌, ◌<◌}
use Rattle.std.proofs.Math.Decide.{dec_lt}
use Rattle.theory.specs.Field.{Field}
use Rattle.theory.specs.Word.{pick, unit, sum, pow}

-- X 0, .., X (n - 1) are distinct and not zero; the code's points are X i = α^i
pub record Points (K : Field) (X : ℕ → K.F) (n : ℕ) : Type 0 where
  pub distinct : (i j : ℕ) → i < n → j < n → i ≢ j → X i ≢ X j
  pub nonzero : (i : ℕ) → i < n → X i ≢ K.𝟎

module _ (K : Field) where
  open K use {F, 𝟎, 𝟏, add as ◌⊕◌, mul as ◌⊗◌}

  infixl 65 ◌⊕◌
  infixl 70 ◌⊗◌
  -- the power sum number j of a word, a syndrome: the sum of c_i·X_i^j over the first n places
  unfoldable pub syn : (ℕ → F) → ℕ → (ℕ → F) → ℕ → F
  syn X n c j = sum K (λ i. c i ⊗ pow K (X i) j) n

  -- section 6.1.3, step 7: the roots of g(x) are α^j for j = 1..n-k, and
  -- the code is the words (c_0..c_{n-1}) whose sum of c_i·α^(ij) is 0 for j = 1..n-k; here s = n - k
  abbrev pub IsCode : (ℕ → F) → ℕ → ℕ → (ℕ → F) → Type 0
  IsCode X n s c = (j : ℕ) → j < s → syn X n c (suc j) ≡ 𝟎

  -- the value at x of the polynomial with the coefficients Λ 0, .., Λ (m - 1)
  unfoldable pub ev : (ℕ → F) → ℕ → F → F
  ev Λ m x = sum K (λ j. Λ j ⊗ pow K x j) m

  -- a polynomial's coefficients from the second on
  unfoldable pub tail : (ℕ → F) → ℕ → F
  tail Λ j = Λ (suc j)

  -- the polynomial p times (x - a); minus is plus
  unfoldable pub with_root : F → (ℕ → F) → ℕ → F
  with_root a p zero = a ⊗ p 0
  with_root a p (suc j) = p j ⊕ a ⊗ p (suc j)

  -- the product of (x - ρ i) for i below m
  unfoldable pub product : (ℕ → F) → ℕ → ℕ → F
  product ρ zero = unit K 0
  product ρ (suc m) = with_root (ρ m) (product ρ m)

  -- g, i places further up
  unfoldable pub shifted : (ℕ → F) → ℕ → ℕ → F
  shifted g i j = pick (dec_lt j i) 𝟎 (g (j - i))

  -- section 6.1.3, step 7: the generator g(x), the product of (x - α^i) for i = 1..s; there s = n - k
  unfoldable pub gen : F → ℕ → ℕ → F
  gen α s = product (λ i. pow K α (suc i)) s

  -- section 6.1.3, step 8: the matrix G0 is row shifts of the generator; the entry at row i, column j
  unfoldable pub G0 : F → ℕ → ℕ → ℕ → F
  G0 α s i = shifted (gen α s) i
