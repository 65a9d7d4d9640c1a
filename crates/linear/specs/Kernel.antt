-- A vector of the kernel of a matrix with more columns than rows, as decoding and solving read it off the end of elimination.
use Rattle.std.specs.Prelude.{◌≡◌, List, ℕ, eqb, ltb}
use Rattle.lists.specs.Loops.{pick, tab}
use Rattle.gf.specs.Field.{Modulus}
use Rattle.linear.specs.Matrix.{entry}
use Rattle.linear.specs.Elimination.{Done, eliminated}

-- with r columns done, column r is the combination of the earlier ones: M[0][r], .., M[r-1][r], 1, 0, ..
abbrev pub kernel_at : ℕ → ℕ → List ℕ → ℕ → ℕ
kernel_at cols r l j = pick (ltb j r) (entry cols l j r) (pick (eqb j r) 1 0)

-- the vector at the end d
abbrev pub kernel_of : ℕ → Done → List ℕ
kernel_of cols d = tab cols (kernel_at cols d.cols d.mat)

-- the vector for the matrix l, eliminated as far as its rows go
unfoldable pub kernel_vector : Modulus → ℕ → ℕ → List ℕ → List ℕ
kernel_vector F rows cols l = kernel_of cols (eliminated F rows cols rows l)

-- the matrix was left as l, the vector as v, with r columns done, as d says
pub record Kernel (cols : ℕ) (d : Done) (l v : List ℕ) (r : ℕ) : Type 0 where
  pub mat : l ≡ d.mat
  pub vector : v ≡ kernel_of cols d
  pub cols_done : r ≡ d.cols
