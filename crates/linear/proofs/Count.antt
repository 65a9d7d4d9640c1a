-- The count of row operations: a column takes at most a swap, a scaling and an addition to every other row, so at most
-- rows + 1 operations.
use mathlib.Core.Path.{◌≡◌, refl}
use mathlib.Core.List.{List}
use Prim.Native.Nat.{ℕ, zero, suc, ◌+◌, ◌*◌, ◌<◌, ◌≤◌}
use native.Mathlib.Nat.{suc-mul, zero-mul, mul-le-mul_right}
use native.Mathlib.Omega.{arith}
use native.Mathlib.Decide.{dec_lt}
use lib.Dec.{ltb}
use borrow.Author.Tests.{eq-eqb, ne_eqb, lt-ltb, le-ltb}
use Rattle.lists.specs.Loops.{pick, turns}
use Rattle.theory.proofs.Place.{at-or}
use Rattle.gf.specs.Field.{Modulus}
use Rattle.linear.specs.Matrix.{entry}
use Rattle.linear.specs.Elimination.{Work, Done, pivot_row, place_pivot, scale_pivot, clear_row, clear_next, clear_column, reduce_column, eliminate_from, eliminated}

module _ (F : Modulus) (rows cols : ℕ) where
  place-few : (p c : ℕ) (l : List ℕ) → (place_pivot cols p c l).ops ≤ 1
  unfolding place_pivot
  place-few p c l = at-or p c (λ e. rw (eq-eqb p c e) (omega arith)) (λ d. rw (ne_eqb p c d) (omega arith))

  scale-few : (c : ℕ) (l : List ℕ) → (scale_pivot F cols c l).ops ≤ 1
  unfolding scale_pivot
  scale-few c l =
      at-or (entry cols l c c) 1 (λ e. rw (eq-eqb (entry cols l c c) 1 e) (omega arith)) (λ d. rw (ne_eqb (entry cols l c c) 1 d) (omega arith))

  clear-own : (c i : ℕ) (l : List ℕ) → i ≡ c → (clear_row F cols c i l).ops ≡ 0
  unfolding clear_row
  clear-own c i l e = rw (eq-eqb i c e)

  clear-few : (c i : ℕ) (l : List ℕ) → (clear_row F cols c i l).ops ≤ 1
  unfolding clear_row
  clear-few c i l =
      at-or i c (λ e. rw (eq-eqb i c e) (omega arith))
      (λ d. at-or (entry cols l i c) 0
      (λ e. rw (ne_eqb i c d, eq-eqb (entry cols l i c) 0 e) (omega arith))
      (λ z. rw (ne_eqb i c d, ne_eqb (entry cols l i c) 0 z) (omega arith)))

  -- n rows take n operations at most, and one less once row c is among them
  module _ (c : ℕ) (l : List ℕ) where
    abbrev upto : ℕ → Work
    upto n = turns (clear_next F cols c) n (record { mat = l; ops = 0 })

    upto-suc : (n : ℕ) → (upto (suc n)).ops ≡ (upto n).ops + (clear_row F cols c n (upto n).mat).ops
    unfolding turns
    upto-suc n = refl

    upto-few : (n : ℕ) → (upto n).ops ≤ n
    unfolding turns
    upto-few zero = omega arith
    upto-few (suc n) = omega (arith, upto-few n, clear-few c n (upto n).mat)

    upto-less : (n : ℕ) → c < n → (upto n).ops < n
    upto-less zero h = absurd (omega arith)
    upto-less (suc n) h =
        at-or n c (λ e. omega (arith, upto-suc n, upto-few n, clear-own c n (upto n).mat e))
        (λ d. omega (arith, upto-suc n, upto-less n (omega arith), clear-few c n (upto n).mat))

  column-few : (c p : ℕ) (l : List ℕ) → c < rows → (reduce_column F rows cols c p l).ops ≤ suc rows
  unfolding reduce_column clear_column
  column-few c p l h =
      let a = (place_pivot cols p c l).mat in
      let b = (scale_pivot F cols c a).mat in
      omega (arith, place-few p c l, scale-few c a, upto-less c b rows h)

  -- ---- all columns
  record Counted (n c ops : ℕ) (d : Done) : Type 0 where
    within : d.cols ≤ c + n
    few : d.ops + c * suc rows ≤ ops + d.cols * suc rows

  column : (n c : ℕ) (l : List ℕ) (ops w p : ℕ) (rest : Done) → w ≤ suc rows → Counted n (suc c) (ops + w) rest → Dec (p < rows)
      → Counted (suc n) c ops (pick (ltb p rows) rest (record { mat = l; cols = c; ops = ops }))
  column n c l ops w p rest h r (yes lt) =
      let a = r.within in
      let b = r.few in
      rw (lt-ltb p rows lt) (record { within = omega arith; few = omega (arith, suc-mul c (suc rows)) })
  column n c l ops w p rest h r (no ge) =
      let le : rows ≤ p = omega arith in
      rw (le-ltb p rows le) (record { within = omega arith; few = omega arith })

  counted-from : (n c : ℕ) (l : List ℕ) (ops : ℕ) → c + n ≤ rows → Counted n c ops (eliminate_from F rows cols n c l ops)
  unfolding eliminate_from
  counted-from zero c l ops h = record { within = omega arith; few = omega arith }
  counted-from (suc n) c l ops h =
      let p = pivot_row rows cols c l in
      let w = reduce_column F rows cols c p l in
      column n c l ops w.ops p _ (column-few c p l (omega arith)) (counted-from n (suc c) w.mat (ops + w.ops) (omega arith)) (dec_lt p rows)

  module _ (limit : ℕ) (l : List ℕ) (h : limit ≤ rows) where
    whole : Counted limit 0 0 (eliminated F rows cols limit l)
    unfolding eliminated
    whole = counted-from limit 0 l 0 (omega arith)

    -- at most rows + 1 operations for each column done
    pub ops-done : (eliminated F rows cols limit l).ops ≤ (eliminated F rows cols limit l).cols * suc rows
    ops-done = omega (arith, whole.few, zero-mul (suc rows))

    -- and so for each of the columns asked for: with limit = rows = k at most k (k + 1)
    pub ops-bound : (eliminated F rows cols limit l).ops ≤ limit * suc rows
    ops-bound =
        let e : (eliminated F rows cols limit l).cols ≤ limit = omega (arith, whole.within) in
        let m : (eliminated F rows cols limit l).cols * suc rows ≤ limit * suc rows = mul-le-mul_right (suc rows) e in
        omega (arith, ops-done)
