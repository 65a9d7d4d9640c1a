-- A matrix of field elements that lies row after row in a list, and the exchange of two runs of such a list.
use Rattle.std.specs.Prelude.{List, ℕ, ◌+◌, ◌*◌, ◌≤◌, ◌<◌, length, get_or, set}
use Rattle.lists.specs.Loops.{turns}
use Rattle.gf.specs.Field.{Modulus, size}

-- the entry at row i, column j
abbrev pub entry : ℕ → List ℕ → ℕ → ℕ → ℕ
entry cols l i j = get_or l (i * cols + j) 0

-- the list has room for the rows, and each entry is an element of the field
pub record Matrix (F : Modulus) (rows cols : ℕ) (l : List ℕ) : Type 0 where
  pub fits : rows * cols ≤ length l
  pub small : (i j : ℕ) → i < rows → j < cols → entry cols l i j < size F

-- the elements k places after a and after b, exchanged
abbrev pub swap_at : ℕ → ℕ → ℕ → List ℕ → List ℕ
swap_at a b k l = set (set l (a + k) (get_or l (b + k) 0)) (b + k) (get_or l (a + k) 0)

-- the n elements from a on and those from b on, exchanged one place after the other
unfoldable pub swap_run : ℕ → ℕ → ℕ → List ℕ → List ℕ
swap_run a b n l = turns (swap_at a b) n l
