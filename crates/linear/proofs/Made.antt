-- The row operations that elimination makes, as a chain; each keeps a matrix of elements one.
use mathlib.Core.Path.{◌≡◌, refl, ◌∙◌}
use mathlib.Core.Logic.{◌≢◌}
use mathlib.Core.List.{List}
use Prim.Native.Nat.{ℕ, ◌+◌, ◌*◌, ◌<◌, ◌≤◌}
use lib.ListN.{length}
use Rattle.theory.proofs.Place.{at-or}
use Rattle.gf.specs.Field.{Modulus, size, width}
use Rattle.gf.specs.Runs.{add_run, scale_run}
use Rattle.gf.proofs.Xor.{add-lt}
use Rattle.gf.proofs.Ring.{mul-lt}
use Rattle.linear.specs.Matrix.{Matrix, swap_run}
use Rattle.linear.proofs.Steps.{row_within}
use Rattle.linear.proofs.Entries.{added-length, added-there, added-elsewhere, scaled-length, scaled-there, scaled-elsewhere, swapped-length, swapped-first, swapped-second, swapped-elsewhere}

-- the lists that come from l₀ by row operations
pub data Made (F : Modulus) (rows cols : ℕ) (l₀ : List ℕ) : List ℕ → Type 0 where
  start : Made F rows cols l₀ l₀
  added : {l : List ℕ} (i r f : ℕ) → i < rows → r < rows → i ≢ r → Made F rows cols l₀ l → Made F rows cols l₀ (add_run F (i * cols) (r * cols) cols f l)
  scaled : {l : List ℕ} (i f : ℕ) → i < rows → 0 < f → f < size F → Made F rows cols l₀ l → Made F rows cols l₀ (scale_run F (i * cols) cols f l)
  swapped : {l : List ℕ} (a b : ℕ) → a < rows → b < rows → a ≢ b → Made F rows cols l₀ l → Made F rows cols l₀ (swap_run (a * cols) (b * cols) cols l)

module _ (F : Modulus) (rows cols : ℕ) (l : List ℕ) (M : Matrix F rows cols l) where
  pub row_fits : (i : ℕ) → i < rows → i * cols + cols ≤ length l
  row_fits i h = row_within i rows cols (length l) (length l) h M.fits refl

  pub added-matrix : (i r f : ℕ) → i < rows → r < rows → i ≢ r → Matrix F rows cols (add_run F (i * cols) (r * cols) cols f l)
  added-matrix i r f hi hr d =
      record {
        fits = rw (added-length F cols i r f l) M.fits;
        small = λ p j hp hj. at-or p i
            (λ e. rw (e, added-there F cols i r f l d j hj (row_fits i hi)) (add-lt (width F) _ _ (M.small i j hi hj) (mul-lt F f _)))
            (λ n. rw (added-elsewhere F cols i r f l p j n hj) (M.small p j hp hj));
      }

  pub scaled-matrix : (i f : ℕ) → i < rows → Matrix F rows cols (scale_run F (i * cols) cols f l)
  scaled-matrix i f hi =
      record {
        fits = rw (scaled-length F cols i f l) M.fits;
        small = λ p j hp hj. at-or p i
            (λ e. rw (e, scaled-there F cols i f l j hj (row_fits i hi)) (mul-lt F f _))
            (λ n. rw (scaled-elsewhere F cols i f l p j n hj) (M.small p j hp hj));
      }

  pub swapped-matrix : (a b : ℕ) → a < rows → b < rows → a ≢ b → Matrix F rows cols (swap_run (a * cols) (b * cols) cols l)
  swapped-matrix a b ha hb d =
      record {
        fits = rw (swapped-length cols a b l) M.fits;
        small = λ p j hp hj. at-or p a
            (λ e. rw (e, swapped-first cols a b l d (row_fits a ha) (row_fits b hb) j hj) (M.small b j hb hj))
            (λ n. at-or p b
            (λ e. rw (e, swapped-second cols a b l d (row_fits a ha) (row_fits b hb) j hj) (M.small a j ha hj))
            (λ o. rw (swapped-elsewhere cols a b l p j n o hj) (M.small p j hp hj)));
      }

module _ (F : Modulus) (rows cols : ℕ) {l₀ : List ℕ} where
  -- a matrix of elements stays one
  pub made-matrix : {l : List ℕ} → Matrix F rows cols l₀ → Made F rows cols l₀ l → Matrix F rows cols l
  made-matrix M start = M
  made-matrix M (added i r f hi hr d s) = added-matrix F rows cols _ (made-matrix M s) i r f hi hr d
  made-matrix M (scaled i f hi p h s) = scaled-matrix F rows cols _ (made-matrix M s) i f hi
  made-matrix M (swapped a b ha hb d s) = swapped-matrix F rows cols _ (made-matrix M s) a b ha hb d

  -- and the list keeps its length
  pub made-length : {l : List ℕ} → Made F rows cols l₀ l → length l ≡ length l₀
  made-length start = refl
  made-length (added i r f hi hr d s) = added-length F cols i r f _ ∙ made-length s
  made-length (scaled i f hi p h s) = scaled-length F cols i f _ ∙ made-length s
  made-length (swapped a b ha hb d s) = swapped-length cols a b _ ∙ made-length s
