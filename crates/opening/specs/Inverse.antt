-- The inverse of W.
use Rattle.std.specs.Prelude.{◌≡◌, List, ℕ, zero, suc, ◌+◌, ◌*◌, ◌<◌, length, get_or}
use Rattle.gf.specs.Field.{Modulus, ◌⊕◌, mul}
use Rattle.gf.specs.Ten.{ten}
use Rattle.linear.specs.Inverse.{identity}
use Rattle.sets.specs.declared.Set.{Set}
use Rattle.scheme.specs.Keys.{Private}
use Rattle.scheme.specs.Opening.{W}

-- the sum of x i times M i over i below k
unfoldable pub row_sum : Modulus → (ℕ → ℕ) → ℕ → (ℕ → ℕ) → ℕ
row_sum F x zero M = 0
row_sum F x (suc k) M = row_sum F x k M ⊕ mul F (x k) (M k)

-- in rows of 2u numbers, u of them, the inverse of W fills the right half
pub record HoldsInverse (s : Set) (κ : Private) (u : ℕ) (matrix : List ℕ) : Type 0 where
  pub long : length matrix ≡ u * (u + u)
  pub inverse : (b c : ℕ) → b < u → c < u → row_sum ten (λ j. get_or matrix (b * (u + u) + (u + j)) 0) u (λ j. W s κ j c) ≡ identity b c
