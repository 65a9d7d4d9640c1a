-- The word of a vector under the public matrix (RLCE-KEM specification of September 14, 2017, section 6.2).
use Rattle.std.specs.Prelude.{ℕ, ◌-◌}
use Rattle.std.proofs.Math.Decide.{dec_lt}
use Rattle.theory.specs.Field.{Field}
use Rattle.theory.specs.Word.{pick, unit, sum}
use Rattle.theory.specs.Matrix.{Mat}

module _ (K : Field) (k : ℕ) (ge : Mat K) where
  open K use {F, mul as ◌⊗◌}

  infixl 70 ◌⊗◌
  -- the matrix [I, GE]
  unfoldable pub public : Mat K
  public i j = pick (dec_lt j k) (unit K i j) (ge i (j - k))

  -- entry j of x·[I, GE]: the vector itself, then its products with the columns of GE
  unfoldable pub encoded : (ℕ → F) → ℕ → F
  encoded x j = pick (dec_lt j k) (x j) (sum K (λ i. x i ⊗ ge i (j - k)) k)
