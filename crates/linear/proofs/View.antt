-- The list as a matrix over the field of `theory`: its row operations are that theory's, so that all it proves of them holds here.
use mathlib.Core.Path.{sym, ap, ◌∙◌}
use mathlib.Core.Logic.{◌≢◌}
use mathlib.Core.List.{List}
use Prim.Native.Nat.{ℕ, ◌*◌, ◌<◌}
use Rattle.theory.specs.Field.{Field}
use Rattle.theory.specs.Matrix.{swap, Agree, UnitBelow, Steps}
use Rattle.theory.specs.Matrix as theory
use Rattle.theory.proofs.Place.{at-or, swap-first, swap-second, swap-other}
use Rattle.theory.proofs.RowOps.{add-row-at, add-row-off, scale-row-at, scale-row-off}
use Rattle.gf.specs.Field.{Modulus}
use Rattle.gf.specs.Runs.{add_run, scale_run}
use Rattle.gf.proofs.Cyclic.{Cyclic}
use Rattle.gf.proofs.Elements.{El, el, field_of, plus, el-xor, el-mul, el-nonzero}
use Rattle.linear.specs.Matrix.{Matrix, entry, swap_run}
use Rattle.linear.specs.Columns.{Reduced}
use Rattle.linear.proofs.Entries.{added-there, added-elsewhere, scaled-there, scaled-elsewhere, swapped-first, swapped-second, swapped-elsewhere}
use Rattle.linear.proofs.Made.{Made, start, added, scaled, swapped, row_fits, made-matrix}

-- the entry at row i, column j, as an element
abbrev pub view : (F : Modulus) → ℕ → List ℕ → ℕ → ℕ → El F
view F cols l i j = el F (entry cols l i j)

module _ (F : Modulus) (field : Cyclic F) (rows cols : ℕ) where
  abbrev K : Field
  K = field_of F field

  module _ (l : List ℕ) (M : Matrix F rows cols l) where
    added-agrees : (i r f : ℕ) → i < rows → i ≢ r → Agree K rows cols (theory.add_row K (view F cols l) i r (el F f)) (view F cols (add_run F (i * cols) (r * cols) cols f l))
    added-agrees i r f hi d p j hp hj =
        at-or p i
        (λ e. add-row-at K (view F cols l) i r (el F f) p j e ∙ sym (rw e (
        ap (el F) (added-there F cols i r f l d j hj (row_fits F rows cols l M i hi)) ∙ el-xor F field _ _ ∙ ap (plus F _) (el-mul F field _ _))))
        (λ n. add-row-off K (view F cols l) i r (el F f) p j n ∙ sym (ap (el F) (added-elsewhere F cols i r f l p j n hj)))

    scaled-agrees : (i f : ℕ) → i < rows → Agree K rows cols (theory.scale_row K (view F cols l) i (el F f)) (view F cols (scale_run F (i * cols) cols f l))
    scaled-agrees i f hi p j hp hj =
        at-or p i
        (λ e. scale-row-at K (view F cols l) i (el F f) p j e ∙ sym (rw e (
        ap (el F) (scaled-there F cols i f l j hj (row_fits F rows cols l M i hi)) ∙ el-mul F field _ _)))
        (λ n. scale-row-off K (view F cols l) i (el F f) p j n ∙ sym (ap (el F) (scaled-elsewhere F cols i f l p j n hj)))

    swapped-agrees : (a b : ℕ) → a < rows → b < rows → a ≢ b → Agree K rows cols (swap (view F cols l) a b) (view F cols (swap_run (a * cols) (b * cols) cols l))
    swapped-agrees a b ha hb d p j hp hj =
        let fa = row_fits F rows cols l M a ha in
        let fb = row_fits F rows cols l M b hb in
        at-or p a
        (λ e. rw (e, swap-first (view F cols l) a b d) (sym (ap (el F) (swapped-first cols a b l d fa fb j hj))))
        (λ n. at-or p b
        (λ e. rw (e, swap-second (view F cols l) a b) (sym (ap (el F) (swapped-second cols a b l d fa fb j hj))))
        (λ o. rw (swap-other (view F cols l) a b p n o) (sym (ap (el F) (swapped-elsewhere cols a b l p j n o hj)))))

  -- a chain of row operations on the list is one on the matrix
  pub made-steps : {l₀ l : List ℕ} → Matrix F rows cols l₀ → Made F rows cols l₀ l → Steps K rows cols (view F cols l₀) (view F cols l)
  made-steps M start = theory.start
  made-steps M (added {l} i r f hi hr d s) =
      theory.agreeing (added-agrees l (made-matrix F rows cols M s) i r f hi d) (theory.added i r (el F f) hi hr d (made-steps M s))
  made-steps M (scaled {l} i f hi p h s) =
      theory.agreeing (scaled-agrees l (made-matrix F rows cols M s) i f hi) (theory.scaled i (el F f) hi (el-nonzero F field f p h) (made-steps M s))
  made-steps M (swapped {l} a b ha hb d s) =
      theory.agreeing (swapped-agrees l (made-matrix F rows cols M s) a b ha hb d) (theory.swapped a b ha hb d (made-steps M s))

  -- the columns done are those of the unit matrix
  pub reduced-unit : (c : ℕ) (l : List ℕ) → Reduced F rows cols c l → UnitBelow K rows c (view F cols l)
  reduced-unit c l R =
      record { one_at = λ j h. ap (el F) (R.one_at j h); zero_off = λ i j hi h d. ap (el F) (R.zero_off i j hi h d) }
