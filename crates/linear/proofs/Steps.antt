-- The code's steps are the definition's. Each premise is as the code's own calls, tests and invariants give it.
use mathlib.Core.Path.{◌≡◌, refl, sym, ◌∙◌}
use mathlib.Core.Bool.{true, false, not}
use mathlib.Core.List.{List}
use Prim.Native.Nat.{ℕ, suc, ◌+◌, ◌*◌, ◌-◌, ◌<◌, ◌≤◌}
use native.Mathlib.Nat.{mul-le-mul_right, suc-mul}
use native.Mathlib.Numerals.{add-one}
use native.Mathlib.Omega.{arith}
use lib.Dec.{eqb}
use lib.ListN.{length}
use Rattle.std.specs.List.{swap}
use Rattle.std.proofs.lemmas.List.Edits.{swap_is}
use borrow.Author.Tests.{eq-eqb, ne_eqb, lt-ltb, le-ltb}
use Rattle.lists.specs.Loops.{turns}
use Rattle.lists.proofs.Loops.{turns_more, left-suc}
use Rattle.gf.specs.Field.{Modulus, inverse}
use Rattle.gf.specs.Runs.{add_run, scale_run}
use Rattle.linear.specs.Matrix.{entry, swap_at, swap_run}
use Rattle.linear.specs.Columns.{Lead}
use Rattle.linear.specs.Elimination.{Did, Done, Ended, pivot_row, place_pivot, scale_pivot, clear_row, clear_column, reduce_column, eliminate_from}
use Rattle.linear.proofs.Runs.{scale-from, add-from}

-- ---- where a row and an entry lie. n is the length now, n₀ the one that a `requires` speaks of
pub row_within : (i rows cols n₀ n : ℕ) → i < rows → rows * cols ≤ n₀ → n ≡ n₀ → i * cols + cols ≤ n
row_within i rows cols n₀ n h fits e =
    let all : suc i * cols ≤ rows * cols = mul-le-mul_right cols h in
    omega (arith, suc-mul i cols)

pub entry-within : (i j rows cols n : ℕ) → i < rows → j < cols → rows * cols ≤ n → i * cols + j < n
entry-within i j rows cols n h g fits =
    let all : suc i * cols ≤ rows * cols = mul-le-mul_right cols h in
    omega (arith, suc-mul i cols)

pub front-within : (r rows cols n₀ n : ℕ) → r ≤ rows → rows * cols ≤ n₀ → n ≡ n₀ → r * cols ≤ n
front-within r rows cols n₀ n h fits e =
    let all : r * cols ≤ rows * cols = mul-le-mul_right cols h in
    omega arith

pub usable-true : (x y : ℕ) → y ≡ x → (y ≡ 0 → ⊥) → not (eqb x 0) ≡ true
usable-true x y e h = rw (← e, ne_eqb y 0 h)

pub usable-false : (x y : ℕ) → y ≡ x → y ≡ 0 → not (eqb x 0) ≡ false
usable-false x y e h = rw (← e, eq-eqb y 0 h)

pub swap-more : (k n : ℕ) (l₀ l : List ℕ) (a b : ℕ) → l ≡ turns (swap_at a b) k l₀ → k < n → a + n ≤ length l → b + n ≤ length l → swap l (a + k) (b + k) ≡ turns (swap_at a b) (k + 1) l₀
swap-more k n l₀ l a b e h x y = sym (swap_is l (a + k) (b + k) 0 (omega arith) (omega arith)) ∙ turns_more (swap_at a b) k l₀ l e

-- ---- the steps of a column
module _ (cols p c : ℕ) (l : List ℕ) where
  pub place-stays : p ≡ c → Did (place_pivot cols p c l) 1 l 0
  unfolding place_pivot
  place-stays e = rw (eq-eqb p c e) (record { mat = refl; ops = refl; few = omega arith })

  pub place-moves : (p ≡ c → ⊥) → (l' : List ℕ) → l' ≡ swap_run (p * cols) (c * cols) cols l → Did (place_pivot cols p c l) 1 l' 1
  unfolding place_pivot
  place-moves ne l' e = rw (ne_eqb p c ne) (record { mat = e; ops = refl; few = omega arith })

module _ (F : Modulus) (cols c x : ℕ) (l : List ℕ) (read : x ≡ entry cols l c c) where
  pub scale-stays : x ≡ 1 → Did (scale_pivot F cols c l) 1 l 0
  unfolding scale_pivot
  scale-stays e = rw (← read, eq-eqb x 1 e) (record { mat = refl; ops = refl; few = omega arith })

  pub scale-scales : (x ≡ 1 → ⊥) → c < cols → Lead cols c l → (y : ℕ) → y ≡ inverse F x → (l' : List ℕ) → l' ≡ scale_run F (c * cols + c) (cols - c) y l → Did (scale_pivot F cols c l) 1 l' 1
  unfolding scale_pivot
  scale-scales ne h lead y ey l' e =
      let le : c ≤ cols = omega arith in
      rw (← read, ne_eqb x 1 ne, ← ey) (record { mat = e ∙ scale-from F c cols y l le (c * cols) lead; ops = refl; few = omega arith })

module _ (F : Modulus) (cols c i : ℕ) (l : List ℕ) where
  pub clear_self : i ≡ c → Did (clear_row F cols c i l) 1 l 0
  unfolding clear_row
  clear_self e = rw (eq-eqb i c e) (record { mat = refl; ops = refl; few = omega arith })

  module _ (other : i ≡ c → ⊥) (x : ℕ) (read : x ≡ entry cols l i c) where
    pub clear_zero : x ≡ 0 → Did (clear_row F cols c i l) 1 l 0
    unfolding clear_row
    clear_zero e = rw (ne_eqb i c other, ← read, eq-eqb x 0 e) (record { mat = refl; ops = refl; few = omega arith })

    pub clear-adds : (x ≡ 0 → ⊥) → c < cols → Lead cols c l → (b : ℕ) → b ≤ c → (l' : List ℕ) → l' ≡ add_run F (i * cols + b) (c * cols + b) (cols - b) x l → Did (clear_row F cols c i l) 1 l' 1
    unfolding clear_row
    clear-adds ne h lead b at l' e =
        let le : b ≤ cols = omega arith in
        rw (ne_eqb i c other, ← read, ne_eqb x 0 ne) (record { mat = e ∙ add-from F b cols x l le (i * cols) (c * cols) (λ j g. lead j (omega arith)); ops = refl; few = omega arith })

-- ---- a column, and the loop over the columns
pub reduce-does : (F : Modulus) (rows cols c p : ℕ) (l₀ l₁ l₂ l₃ : List ℕ) (a b d : ℕ) → Did (place_pivot cols p c l₀) 1 l₁ a → Did (scale_pivot F cols c l₁) 1 l₂ b → Did (clear_column F rows cols c l₂) rows l₃ d
    → Did (reduce_column F rows cols c p l₀) (rows + 2) l₃ (a + b + d)
unfolding reduce_column
reduce-does F rows cols c p l₀ l₁ l₂ l₃ a b d x y z = record {
  mat = cc;
  ops = cc;
  few = omega arith;
}

module _ (F : Modulus) (rows cols limit c : ℕ) (l : List ℕ) (ops : ℕ) (whole : Done) (left : whole ≡ eliminate_from F rows cols (limit - c) c l ops) where
  -- a turn with a pivot in row p, which leaves the list l' and counts k
  pub elim-again : (p : ℕ) → c < limit → p ≡ pivot_row rows cols c l → p < rows → (most : ℕ) (l' : List ℕ) (k : ℕ) → Did (reduce_column F rows cols c p l) most l' k
      → whole ≡ eliminate_from F rows cols (limit - (c + 1)) (c + 1) l' (ops + k)
  unfolding eliminate_from
  elim-again p h q lt most l' k d =
      left ∙ rw (left-suc limit c h, ← q, lt-ltb p rows lt, add-one c, d.mat, d.ops)

  -- a turn with no pivot
  pub elim-stop : c < limit → rows ≡ pivot_row rows cols c l → Ended whole limit l c ops
  unfolding eliminate_from
  elim-stop h q =
      let le : rows ≤ rows = omega arith in
      let w : whole ≡ record { mat = l; cols = c; ops = ops } = left ∙ rw (left-suc limit c h, ← q, le-ltb rows rows le) in
      rw w (record { mat = refl; cols = refl; ops = refl; within = omega arith })

  -- after the last turn
  pub elim-end : c ≡ limit → Ended whole limit l limit ops
  unfolding eliminate_from
  elim-end e =
      let z : limit - c ≡ 0 = omega arith in
      let w : whole ≡ record { mat = l; cols = limit; ops = ops } = left ∙ rw (z, e) in
      rw w (record { mat = refl; cols = refl; ops = refl; within = omega arith })
