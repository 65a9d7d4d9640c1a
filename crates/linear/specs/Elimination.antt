-- Gauss-Jordan elimination, column by column, to the echelon format [I, GE] (RLCE-KEM specification of September 14, 2017, section 6.1.2),
-- the reduced row echelon form, with its count of row operations. The specification leaves the order open; it is fixed here, so that the count is.
-- The pivot of column c comes to row c. A row operation is a swap, a scaling or an addition, and works on whole rows.
use Rattle.std.specs.Prelude.{◌≡◌, Bool, not, List, ℕ, zero, suc, ◌+◌, ◌*◌, ◌-◌, ◌≤◌, eqb, ltb}
use Rattle.lists.specs.Loops.{pick, turns, first}
use Rattle.gf.specs.Field.{Modulus, inverse}
use Rattle.gf.specs.Runs.{add_run, scale_run}
use Rattle.linear.specs.Matrix.{entry, swap_run}

-- a matrix, and how many row operations made it
pub record Work : Type 0 where
  pub mat : List ℕ
  pub ops : ℕ

-- a row is usable for column c if its entry there is not 0
abbrev pub usable : ℕ → ℕ → List ℕ → ℕ → Bool
usable cols c l i = not (eqb (entry cols l i c) 0)

-- the row of the pivot: the first usable row from the pivot row down; rows where there is none
unfoldable pub pivot_row : ℕ → ℕ → ℕ → List ℕ → ℕ
pivot_row rows cols c l = first (usable cols c l) (rows - c) c

-- an elementary row operation brings the pivot to row c: a swap if it isn't there already
unfoldable pub place_pivot : ℕ → ℕ → ℕ → List ℕ → Work
place_pivot cols p c l =
    pick (eqb p c) (record { mat = l; ops = 0 })
    (record { mat = swap_run (p * cols) (c * cols) cols l; ops = 1 })

-- an elementary row operation makes it 1: a scaling if the pivot isn't 1
unfoldable pub scale_pivot : Modulus → ℕ → ℕ → List ℕ → Work
scale_pivot F cols c l =
    pick (eqb (entry cols l c c) 1) (record { mat = l; ops = 0 })
    (record { mat = scale_run F (c * cols) cols (inverse F (entry cols l c c)) l; ops = 1 })

-- elementary row operations clear the rest of the column: an addition to every other row with a non-zero entry in that column. Here row i: its entry x is cleared by x times row c
unfoldable pub clear_row : Modulus → ℕ → ℕ → ℕ → List ℕ → Work
clear_row F cols c i l =
    pick (eqb i c) (record { mat = l; ops = 0 })
    (pick (eqb (entry cols l i c) 0) (record { mat = l; ops = 0 })
    (record { mat = add_run F (i * cols) (c * cols) cols (entry cols l i c) l; ops = 1 }))

-- row i cleared after the rows before it, its operation counted
abbrev pub clear_next : Modulus → ℕ → ℕ → ℕ → Work → Work
clear_next F cols c i w =
    record { mat = (clear_row F cols c i w.mat).mat; ops = w.ops + (clear_row F cols c i w.mat).ops }

-- row 0, then row 1, .., up to the last
unfoldable pub clear_column : Modulus → ℕ → ℕ → ℕ → List ℕ → Work
clear_column F rows cols c l = turns (clear_next F cols c) rows (record { mat = l; ops = 0 })

-- column c, whose first usable row is p
unfoldable pub reduce_column : Modulus → ℕ → ℕ → ℕ → ℕ → List ℕ → Work
reduce_column F rows cols c p l =
    let a = place_pivot cols p c l in
    let b = scale_pivot F cols c a.mat in
    let d = clear_column F rows cols c b.mat in
    record { mat = d.mat; ops = a.ops + b.ops + d.ops }

-- what elimination ends with: the matrix, how many columns are done, how many row operations
pub record Done : Type 0 where
  pub mat : List ℕ
  pub cols : ℕ
  pub ops : ℕ

-- the n columns from c on, or those before the first without a usable row
unfoldable pub eliminate_from : Modulus → ℕ → ℕ → ℕ → ℕ → List ℕ → ℕ → Done
eliminate_from F rows cols zero c l ops = record { mat = l; cols = c; ops = ops }
eliminate_from F rows cols (suc n) c l ops =
    let p = pivot_row rows cols c l in
    let w = reduce_column F rows cols c p l in
    let rest = eliminate_from F rows cols n (suc c) w.mat (ops + w.ops) in
    pick (ltb p rows) rest (record { mat = l; cols = c; ops = ops })

-- the first `limit` columns, or those before the first without a usable row
unfoldable pub eliminated : Modulus → ℕ → ℕ → ℕ → List ℕ → Done
eliminated F rows cols limit l = eliminate_from F rows cols limit 0 l 0

-- ---- how the code's contracts say it

-- a step left the list l and answered r row operations, at most `most`, as w says
pub record Did (w : Work) (most : ℕ) (l : List ℕ) (r : ℕ) : Type 0 where
  pub mat : l ≡ w.mat
  pub ops : r ≡ w.ops
  pub few : r ≤ most

-- elimination left the list l, did c columns, at most `limit`, and counted k row operations, as d says
pub record Ended (d : Done) (limit : ℕ) (l : List ℕ) (c k : ℕ) : Type 0 where
  pub mat : l ≡ d.mat
  pub cols : c ≡ d.cols
  pub ops : k ≡ d.ops
  pub within : c ≤ limit
