-- The pivot's row is brought to row c and divided by its pivot: the columns done stay those of the identity matrix, and the entry at (c, c) is 1.
use mathlib.Core.Path.{◌≡◌, ◌∙◌}
use mathlib.Core.Logic.{◌≢◌}
use mathlib.Core.List.{List}
use Prim.Native.Nat.{ℕ, ◌*◌, ◌<◌, ◌≤◌}
use native.Mathlib.Omega.{arith}
use borrow.Author.Tests.{eq-eqb, ne_eqb}
use Rattle.theory.proofs.Place.{at-or}
use Rattle.gf.specs.Field.{Modulus, inverse}
use Rattle.gf.specs.Runs.{scale_run}
use Rattle.gf.proofs.Ring.{mul-zero-right, mul_comm, inverse-lt}
use Rattle.gf.proofs.Cyclic.{Cyclic, mul-inverse, inverse-pos}
use Rattle.linear.specs.Matrix.{entry, swap_run}
use Rattle.linear.specs.Columns.{Reduced}
use Rattle.linear.specs.Elimination.{place_pivot, scale_pivot}
use Rattle.linear.proofs.Entries.{scaled-there, scaled-elsewhere, swapped-first, swapped-second, swapped-elsewhere}
use Rattle.linear.proofs.Made.{Made, scaled, swapped, row_fits, scaled-matrix, swapped-matrix}

-- ---- the cases of each step
module _ (cols p c : ℕ) (l : List ℕ) where
  placed : p ≡ c → (place_pivot cols p c l).mat ≡ l
  unfolding place_pivot
  placed e = rw (eq-eqb p c e)

  moved : p ≢ c → (place_pivot cols p c l).mat ≡ swap_run (p * cols) (c * cols) cols l
  unfolding place_pivot
  moved d = rw (ne_eqb p c d)

module _ (F : Modulus) (cols c : ℕ) (l : List ℕ) where
  unscaled : entry cols l c c ≡ 1 → (scale_pivot F cols c l).mat ≡ l
  unfolding scale_pivot
  unscaled e = rw (eq-eqb (entry cols l c c) 1 e)

  divided : entry cols l c c ≢ 1 → (scale_pivot F cols c l).mat ≡ scale_run F (c * cols) cols (inverse F (entry cols l c c)) l
  unfolding scale_pivot
  divided d = rw (ne_eqb (entry cols l c c) 1 d)

-- ---- the pivot's row, brought to row c
module _ (F : Modulus) (rows cols c p : ℕ) (l : List ℕ) (hc : c < rows) (hp : p < rows) where
  pub place-made : (l₀ : List ℕ) → Made F rows cols l₀ l → Made F rows cols l₀ (place_pivot cols p c l).mat
  place-made l₀ s =
      at-or p c (λ e. rw (placed cols p c l e) s) (λ d. rw (moved cols p c l d) (swapped p c hp hc d s))

  module _ (hk : c < cols) (le : c ≤ p) (R : Reduced F rows cols c l) where
    pub place-pivot : entry cols (place_pivot cols p c l).mat c c ≡ entry cols l p c
    place-pivot =
        at-or p c (λ e. rw (placed cols p c l e, e))
        (λ d. rw (moved cols p c l d) (swapped-second cols p c l d (row_fits F rows cols l R.matrix p hp) (row_fits F rows cols l R.matrix c hc) c hk))

    swap-reduced : p ≢ c → Reduced F rows cols c (swap_run (p * cols) (c * cols) cols l)
    swap-reduced d =
        let fp = row_fits F rows cols l R.matrix p hp in
        let fc = row_fits F rows cols l R.matrix c hc in
        record {
          matrix = swapped-matrix F rows cols l R.matrix p c hp hc d;
          one_at = λ j h. swapped-elsewhere cols p c l j j (omega arith) (omega arith) (omega arith) ∙ R.one_at j h;
          zero_off = λ i j hi h n. at-or i p
              (λ e. rw e (swapped-first cols p c l d fp fc j (omega arith) ∙ R.zero_off c j hc h (omega arith)))
              (λ np. at-or i c
              (λ e. rw e (swapped-second cols p c l d fp fc j (omega arith) ∙ R.zero_off p j hp h (omega arith)))
              (λ nc. swapped-elsewhere cols p c l i j np nc (omega arith) ∙ R.zero_off i j hi h n));
        }

    pub place-reduced : Reduced F rows cols c (place_pivot cols p c l).mat
    place-reduced = at-or p c (λ e. rw (placed cols p c l e) R) (λ d. rw (moved cols p c l d) (swap-reduced d))

-- ---- row c, divided by its pivot
module _ (F : Modulus) (field : Cyclic F) (rows cols c : ℕ) (l : List ℕ) (hc : c < rows) (hk : c < cols) (R : Reduced F rows cols c l) (usable : entry cols l c c ≢ 0) where
  pub scale-made : (l₀ : List ℕ) → Made F rows cols l₀ l → Made F rows cols l₀ (scale_pivot F cols c l).mat
  scale-made l₀ s =
      at-or (entry cols l c c) 1 (λ e. rw (unscaled F cols c l e) s)
      (λ d. rw (divided F cols c l d) (scaled c _ hc (inverse-pos field _ (omega arith) (R.matrix.small c c hc hk)) (inverse-lt F _) s))

  pub scale_one : entry cols (scale_pivot F cols c l).mat c c ≡ 1
  scale_one =
      at-or (entry cols l c c) 1 (λ e. rw (unscaled F cols c l e) e)
      (λ d. rw (divided F cols c l d) (
      scaled-there F cols c _ l c hk (row_fits F rows cols l R.matrix c hc) ∙ mul_comm F _ _ ∙ mul-inverse field _ (omega arith) (R.matrix.small c c hc hk)))

  scaled-reduced : (f : ℕ) → Reduced F rows cols c (scale_run F (c * cols) cols f l)
  scaled-reduced f =
      record {
        matrix = scaled-matrix F rows cols l R.matrix c f hc;
        one_at = λ j h. scaled-elsewhere F cols c f l j j (omega arith) (omega arith) ∙ R.one_at j h;
        zero_off = λ i j hi h n. at-or i c
            (λ e. rw e (scaled-there F cols c f l j (omega arith) (row_fits F rows cols l R.matrix c hc) ∙ rw (R.zero_off c j hc h (omega arith)) (mul-zero-right F f)))
            (λ d. scaled-elsewhere F cols c f l i j d (omega arith) ∙ R.zero_off i j hi h n);
      }

  pub scale-reduced : Reduced F rows cols c (scale_pivot F cols c l).mat
  scale-reduced =
      at-or (entry cols l c c) 1 (λ e. rw (unscaled F cols c l e) R) (λ d. rw (divided F cols c l d) (scaled-reduced _))
