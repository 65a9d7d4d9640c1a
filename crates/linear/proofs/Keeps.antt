-- What the code's loops keep: row c is zero before column c while column c is worked on, and the columns done are those of the identity.
use mathlib.Core.Path.{◌≡◌, sym, ◌∙◌}
use mathlib.Core.Logic.{inl}
use mathlib.Core.List.{List}
use Prim.Native.Nat.{ℕ, ◌+◌, ◌*◌, ◌<◌, ◌≤◌}
use native.Mathlib.Numerals.{add-one}
use native.Mathlib.Omega.{arith}
use Rattle.theory.proofs.Place.{at-or}
use Rattle.gf.specs.Field.{Modulus}
use Rattle.gf.specs.Runs.{scale_run}
use Rattle.gf.specs.Ten.{ten}
use Rattle.gf.proofs.Runs.{scale-off}
use Rattle.gf.proofs.Ten.{ten-field}
use Rattle.linear.specs.Columns.{Lead, Reduced}
use Rattle.linear.specs.Elimination.{Did, pivot_row, place_pivot, clear_row, reduce_column}
use Rattle.linear.proofs.Reduction.{own, clear-elsewhere, column-reduced}
use Rattle.linear.proofs.Pivot.{place-reduced}
use Rattle.linear.proofs.Search.{pivot-usable}

-- the pivot's row has its zeros before column c wherever it comes from
pub lead-place : (F : Modulus) (rows cols c p most : ℕ) (m l : List ℕ) (k : ℕ) → Reduced F rows cols c m → c ≤ p → p < rows → c < cols → Did (place_pivot cols p c m) most l k → Lead cols c l
lead-place F rows cols c p most m l k R le hp hk d j h =
    let hc : c < rows = omega arith in
    rw d.mat ((place-reduced F rows cols c p m hc hp hk le R).zero_off c j hc h (omega arith))

pub lead-scale : (F : Modulus) (cols c n f : ℕ) (m l : List ℕ) → Lead cols c m → l ≡ scale_run F (c * cols + c) n f m → Lead cols c l
lead-scale F cols c n f m l lead e j h = rw e (scale-off F (c * cols + c) n f m (c * cols + j) (inl (omega arith)) ∙ lead j h)

pub lead-clear : (F : Modulus) (cols c i most : ℕ) (m l : List ℕ) (k : ℕ) → Lead cols c m → c < cols → Did (clear_row F cols c i m) most l k → Lead cols c l
lead-clear F cols c i most m l k lead hk d j h =
    rw d.mat (
    at-or i c (λ e. rw (own F cols c m i e) (lead j h))
    (λ n. clear-elsewhere F cols c i m c j (λ e. n (sym e)) (omega arith) ∙ lead j h))

-- one more column
pub reduced-more : (rows cols limit c p most : ℕ) (m l : List ℕ) (k : ℕ) → Reduced ten rows cols c m → c < limit → limit ≤ cols → c ≤ p → p < rows → p ≡ pivot_row rows cols c m → Did (reduce_column ten rows cols c p m) most l k
    → Reduced ten rows cols (c + 1) l
reduced-more rows cols limit c p most m l k R h g le hp q d =
    let hc : c < rows = omega arith in
    let le₂ : c ≤ rows = omega arith in
    let lt : pivot_row rows cols c m < rows = omega arith in
    rw (add-one c, d.mat) (column-reduced ten ten-field rows cols c p m hc hp (omega arith) le R (rw q (pivot-usable rows cols c m le₂ lt)))
