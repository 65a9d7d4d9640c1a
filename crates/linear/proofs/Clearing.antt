-- The loops that clear a column: the rows before the pivot's, and those after it.
use mathlib.Core.Path.{◌≡◌, refl, sym, ap, ◌∙◌}
use mathlib.Core.List.{List}
use Prim.Native.Nat.{ℕ, ◌+◌, ◌<◌, ◌≤◌}
use native.Mathlib.Omega.{arith}
use Rattle.lists.specs.Loops.{turns}
use Rattle.lists.proofs.Loops.{turns-none, turns_more}
use Rattle.gf.specs.Field.{Modulus}
use Rattle.linear.specs.Columns.{Lead, Spared, Cleared}
use Rattle.linear.specs.Elimination.{Work, Did, clear_row, clear_next, clear_column}
use Rattle.linear.proofs.Steps.{clear_self}
use Rattle.linear.proofs.Keeps.{lead-clear}

-- ---- row c is none of them
pub spared : (c from to i : ℕ) → Spared c from to → from ≤ i → i < to → i ≡ c → ⊥
spared c from to i S h g = S.other i h g

-- ---- one row more
clear-more : (F : Modulus) (cols c i : ℕ) (w₀ : Work) (m : List ℕ) (ops : ℕ) (l : List ℕ) (k : ℕ) → ◌≡◌ {A = Work} (record { mat = m; ops = ops }) (turns (clear_next F cols c) i w₀)
    → Did (clear_row F cols c i m) 1 l k → ◌≡◌ {A = Work} (record { mat = l; ops = ops + k }) (turns (clear_next F cols c) (i + 1) w₀)
clear-more F cols c i w₀ m ops l k e d = rw (d.mat, d.ops) (turns_more (clear_next F cols c) i w₀ (record { mat = m; ops = ops }) e)

-- row c itself is left out
clear-past : (F : Modulus) (cols c : ℕ) (w₀ : Work) (m : List ℕ) (ops : ℕ) → ◌≡◌ {A = Work} (record { mat = m; ops = ops }) (turns (clear_next F cols c) c w₀) → ◌≡◌ {A = Work} (record { mat = m; ops = ops }) (turns (clear_next F cols c) (c + 1) w₀)
clear-past F cols c w₀ m ops e =
    let z : ops + 0 ≡ ops = omega arith in
    ap (λ (k : ℕ). record { mat = m; ops = k }) (sym z) ∙ clear-more F cols c c w₀ m ops m 0 e (clear_self F cols c c m refl)

module _ (F : Modulus) (cols c from : ℕ) (l : List ℕ) (ops : ℕ) where
  pub rows_none : ops ≤ from → Lead cols c l → Cleared F cols c from from l ops l ops
  rows_none h lead = record { turn = λ w e. e; few = h; lead = lead }

  pub rows_more : (i : ℕ) (m : List ℕ) (k : ℕ) (m' : List ℕ) (d : ℕ) → Cleared F cols c from i l ops m k → c < cols → Did (clear_row F cols c i m) 1 m' d → Cleared F cols c from (i + 1) l ops m' (k + d)
  rows_more i m k m' d C h D =
      record {
        turn = λ w e. clear-more F cols c i w m k m' d (C.turn w e) D;
        few = omega (arith, C.few, D.few);
        lead = lead-clear F cols c i 1 m m' d C.lead h D;
      }

  pub rows_end : (i to : ℕ) (m : List ℕ) (k : ℕ) → Cleared F cols c from i l ops m k → i ≤ to → to ≤ i → Cleared F cols c from to l ops m k
  rows_end i to m k C h g = let e : i ≡ to = omega arith in rw e at C

-- ---- the rows before c, and those after it
pub clear_both : (F : Modulus) (rows cols c : ℕ) (l l₁ l₂ : List ℕ) (k₁ k₂ : ℕ) → Cleared F cols c 0 c l 0 l₁ k₁ → Cleared F cols c (c + 1) rows l₁ k₁ l₂ k₂ → Did (clear_column F rows cols c l) rows l₂ k₂
unfolding clear_column
clear_both F rows cols c l l₁ l₂ k₁ k₂ A B =
    let w : Work = record { mat = l; ops = 0 } in
    let e = B.turn w (clear-past F cols c w l₁ k₁ (A.turn w (turns-none _ _))) in
    rw (← e) (record { mat = refl; ops = refl; few = B.few })
