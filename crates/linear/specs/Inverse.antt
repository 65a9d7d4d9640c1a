-- The inverse of a square matrix, as W^-1 (RLCE-KEM specification of September 14, 2017, section 6.3, step 19), by Gauss-Jordan elimination. The matrix stands in the left half of n rows of 2n; the identity matrix comes
-- beside it, and elimination of the left half turns the right half into the inverse.
use Rattle.std.specs.Prelude.{◌≡◌, List, ℕ, ◌+◌, ◌*◌, ◌≤◌, ◌<◌, eqb, length, set, Result, Ok, Err}
use Rattle.lists.specs.Loops.{pick, turns}
use Rattle.gf.specs.Field.{Modulus, size}
use Rattle.linear.specs.declared.inverse.Singular.{Singular}
use Rattle.linear.specs.Matrix.{entry}
use Rattle.linear.specs.Elimination.{Done, eliminated}

-- the list has room for the n rows of 2n, and each entry of the left half is an element
pub record LeftHalf (F : Modulus) (n : ℕ) (l : List ℕ) : Type 0 where
  pub fits : n * (n + n) ≤ length l
  pub small : (i j : ℕ) → i < n → j < n → entry (n + n) l i j < size F

-- the identity matrix
abbrev pub identity : ℕ → ℕ → ℕ
identity i j = pick (eqb i j) 1 0

-- its entry at (i, j), j places after `at`
abbrev pub identity_at : ℕ → ℕ → ℕ → List ℕ → List ℕ
identity_at at i j l = set l (at + j) (identity i j)

-- row i of the identity matrix, from `at` on
unfoldable pub identity_run : ℕ → ℕ → ℕ → List ℕ → List ℕ
identity_run at i n l = turns (identity_at at i) n l

-- the same in the right half of row i
abbrev pub beside_row : ℕ → ℕ → List ℕ → List ℕ
beside_row n i l = identity_run (i * (n + n) + n) i n l

-- the identity matrix in the right half
unfoldable pub beside : ℕ → List ℕ → List ℕ
beside n l = turns (beside_row n) n l

-- elimination of the left half
unfoldable pub inverted : Modulus → ℕ → List ℕ → Done
inverted F n l = eliminated F n (n + n) n (beside n l)

-- found where all n columns are done
abbrev pub FoundAt : ℕ → ℕ → Result Unit Singular → Type 0
FoundAt n c (Ok x) = c ≡ n
FoundAt n c (Err e) = c < n

-- inverting left the list l and answered r, as d says
pub record Inverts (n : ℕ) (d : Done) (l : List ℕ) (r : Result Unit Singular) : Type 0 where
  pub mat : l ≡ d.mat
  pub answer : FoundAt n d.cols r
