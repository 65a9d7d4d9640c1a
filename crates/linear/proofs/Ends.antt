-- How elimination ends: a chain of row operations, the identity on the columns done, and zeros where it stopped early.
use mathlib.Core.Path.{◌≡◌}
use mathlib.Core.List.{List}
use Prim.Native.Nat.{ℕ, zero, suc, ◌+◌, ◌<◌, ◌≤◌}
use native.Mathlib.Omega.{arith}
use native.Mathlib.Decide.{dec_lt}
use lib.Dec.{ltb}
use borrow.Author.Tests.{lt-ltb, le-ltb}
use Rattle.lists.specs.Loops.{pick}
use Rattle.gf.specs.Field.{Modulus}
use Rattle.gf.proofs.Cyclic.{Cyclic}
use Rattle.linear.specs.Matrix.{Matrix, entry}
use Rattle.linear.specs.Columns.{Reduced}
use Rattle.linear.specs.Elimination.{Done, pivot_row, reduce_column, eliminate_from, eliminated}
use Rattle.linear.proofs.Made.{Made, start}
use Rattle.linear.proofs.Reduction.{column-made, column-reduced}
use Rattle.linear.proofs.Search.{pivot-from, pivot-usable, pivot-none}

pub record Ends (F : Modulus) (rows cols limit : ℕ) (l₀ : List ℕ) (d : Done) : Type 0 where
  pub made : Made F rows cols l₀ d.mat
  pub reduced : Reduced F rows cols d.cols d.mat
  pub within : d.cols ≤ limit
  pub none : d.cols < limit → (i : ℕ) → d.cols ≤ i → i < rows → entry cols d.mat i d.cols ≡ 0

module _ (F : Modulus) (field : Cyclic F) (rows cols limit : ℕ) (hr : limit ≤ rows) (hc : limit ≤ cols) (l₀ : List ℕ) where
  -- a column, when the rest ends well
  column : (c : ℕ) (l : List ℕ) (ops p : ℕ) (rest : Done) → c < limit → Made F rows cols l₀ l → Reduced F rows cols c l
      → (p < rows → Ends F rows cols limit l₀ rest) → (rows ≤ p → (i : ℕ) → c ≤ i → i < rows → entry cols l i c ≡ 0) → Dec (p < rows)
      → Ends F rows cols limit l₀ (pick (ltb p rows) rest (record { mat = l; cols = c; ops = ops }))
  column c l ops p rest h s R go stop (yes lt) = rw (lt-ltb p rows lt) (go lt)
  column c l ops p rest h s R go stop (no ge) =
      let le : rows ≤ p = omega arith in
      rw (le-ltb p rows le) (record { made = s; reduced = R; within = omega arith; none = λ q. stop le })

  pub ends-from : (n c : ℕ) (l : List ℕ) (ops : ℕ) → c + n ≡ limit → Made F rows cols l₀ l → Reduced F rows cols c l → Ends F rows cols limit l₀ (eliminate_from F rows cols n c l ops)
  unfolding eliminate_from
  ends-from zero c l ops e s R =
      record { made = s; reduced = R; within = omega arith; none = λ h. absurd (omega arith) }
  ends-from (suc n) c l ops e s R =
      let p = pivot_row rows cols c l in
      let w = reduce_column F rows cols c p l in
      let from = pivot-from rows cols c l (omega arith) in
      column c l ops p _ (omega arith) s R
      (λ lt. ends-from n (suc c) w.mat (ops + w.ops) (omega arith)
      (column-made F field rows cols c p l (omega arith) lt (omega arith) from R (pivot-usable rows cols c l (omega arith) lt) l₀ s)
      (column-reduced F field rows cols c p l (omega arith) lt (omega arith) from R (pivot-usable rows cols c l (omega arith) lt)))
      (pivot-none rows cols c l (omega arith))
      (dec_lt p rows)

  pub ends : Matrix F rows cols l₀ → Ends F rows cols limit l₀ (eliminated F rows cols limit l₀)
  unfolding eliminated
  ends M =
      ends-from limit 0 l₀ 0 (omega arith) start
      (record { matrix = M; one_at = λ j h. absurd (omega arith); zero_off = λ i j hi h. absurd (omega arith) })
