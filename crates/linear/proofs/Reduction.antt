-- Column c is cleared row by row: after it the first c + 1 columns are those of the identity matrix. Every step is a chain of row operations.
use mathlib.Core.Path.{◌≡◌, refl, sym, ◌∙◌}
use mathlib.Core.Logic.{◌≢◌}
use mathlib.Core.List.{List}
use Prim.Native.Nat.{ℕ, zero, suc, ◌+◌, ◌*◌, ◌<◌, ◌≤◌}
use native.Mathlib.Omega.{arith}
use lib.ListN.{length}
use borrow.Author.Tests.{eq-eqb, ne_eqb}
use Rattle.lists.specs.Loops.{turns}
use Rattle.theory.proofs.Place.{at-or}
use Rattle.gf.specs.Field.{Modulus, ◌⊕◌, mul}
use Rattle.gf.specs.Runs.{add_run}
use Rattle.gf.proofs.Xor.{zero_right, add-self}
use Rattle.gf.proofs.Ring.{mul-zero-left, mul-zero-right, mul-one-right}
use Rattle.gf.proofs.Cyclic.{Cyclic}
use Rattle.linear.specs.Matrix.{Matrix, entry}
use Rattle.linear.specs.Columns.{Reduced}
use Rattle.linear.specs.Elimination.{place_pivot, clear_row, clear_next, clear_column, reduce_column}
use Rattle.linear.proofs.Entries.{added-there, added-elsewhere}
use Rattle.linear.proofs.Made.{Made, start, added, row_fits, made-matrix}
use Rattle.linear.proofs.Pivot.{place-made, place-pivot, place-reduced, scale-made, scale_one, scale-reduced}

-- ---- the cases for row i
module _ (F : Modulus) (cols c : ℕ) (l : List ℕ) where
  pub own : (i : ℕ) → i ≡ c → (clear_row F cols c i l).mat ≡ l
  unfolding clear_row
  own i e = rw (eq-eqb i c e)

  clear : (i : ℕ) → i ≢ c → entry cols l i c ≡ 0 → (clear_row F cols c i l).mat ≡ l
  unfolding clear_row
  clear i d e = rw (ne_eqb i c d, eq-eqb (entry cols l i c) 0 e)

  cleared : (i : ℕ) → i ≢ c → entry cols l i c ≢ 0 → (clear_row F cols c i l).mat ≡ add_run F (i * cols) (c * cols) cols (entry cols l i c) l
  unfolding clear_row
  cleared i d e = rw (ne_eqb i c d, ne_eqb (entry cols l i c) 0 e)

-- ---- row i, cleared by row c
module _ (F : Modulus) (cols c i : ℕ) (l : List ℕ) where
  pub clear-elsewhere : (p j : ℕ) → p ≢ i → j < cols → entry cols (clear_row F cols c i l).mat p j ≡ entry cols l p j
  clear-elsewhere p j n h =
      at-or i c (λ e. rw (own F cols c l i e))
      (λ d. at-or (entry cols l i c) 0 (λ e. rw (clear F cols c l i d e))
      (λ z. rw (cleared F cols c l i d z) (added-elsewhere F cols i c _ l p j n h)))

  pub clear-there : i ≢ c → (j : ℕ) → j < cols → i * cols + cols ≤ length l → entry cols (clear_row F cols c i l).mat i j ≡ entry cols l i j ⊕ mul F (entry cols l i c) (entry cols l c j)
  clear-there d j h fits =
      at-or (entry cols l i c) 0
      (λ e. rw (clear F cols c l i d e, e, mul-zero-left) (sym (zero_right _)))
      (λ z. rw (cleared F cols c l i d z) (added-there F cols i c _ l d j h fits))

  pub clear-made : (rows : ℕ) → i < rows → c < rows → (l₀ : List ℕ) → Made F rows cols l₀ l → Made F rows cols l₀ (clear_row F cols c i l).mat
  clear-made rows hi hc l₀ s =
      at-or i c (λ e. rw (own F cols c l i e) s)
      (λ d. at-or (entry cols l i c) 0 (λ e. rw (clear F cols c l i d e) s) (λ z. rw (cleared F cols c l i d z) (added i c _ hi hc d s)))

-- ---- the loop over the rows: those below n are cleared, the pivot's row and the later ones are as they were
module _ (F : Modulus) (rows cols c : ℕ) (l : List ℕ) (hc : c < rows) (hk : c < cols) where
  abbrev upto : ℕ → List ℕ
  upto n = (turns (clear_next F cols c) n (record { mat = l; ops = 0 })).mat

  upto_zero : upto 0 ≡ l
  unfolding turns
  upto_zero = refl

  upto-suc : (n : ℕ) → upto (suc n) ≡ (clear_row F cols c n (upto n)).mat
  unfolding turns
  upto-suc n = refl

  upto-made : (n : ℕ) → n ≤ rows → (l₀ : List ℕ) → Made F rows cols l₀ l → Made F rows cols l₀ (upto n)
  upto-made zero h l₀ s = rw upto_zero s
  upto-made (suc n) h l₀ s = rw upto-suc (clear-made F cols c n (upto n) rows h hc l₀ (upto-made n (omega arith) l₀ s))

  upto-later : (n i j : ℕ) → n ≤ i → j < cols → entry cols (upto n) i j ≡ entry cols l i j
  upto-later zero i j h g = rw upto_zero
  upto-later (suc n) i j h g =
      rw upto-suc (clear-elsewhere F cols c n (upto n) i j (omega arith) g ∙ upto-later n i j (omega arith) g)

  upto-pivot : (n j : ℕ) → j < cols → entry cols (upto n) c j ≡ entry cols l c j
  upto-pivot zero j g = rw upto_zero
  upto-pivot (suc n) j g =
      at-or n c (λ e. rw (upto-suc n, own F cols c (upto n) n e) (upto-pivot n j g))
      (λ d. rw upto-suc (clear-elsewhere F cols c n (upto n) c j (λ e. d (sym e)) g ∙ upto-pivot n j g))

  upto-below : Matrix F rows cols l → (n i j : ℕ) → n ≤ rows → i < n → i ≢ c → j < cols → entry cols (upto n) i j ≡ entry cols l i j ⊕ mul F (entry cols l i c) (entry cols l c j)
  upto-below M zero i j le h d g = absurd (omega arith)
  upto-below M (suc n) i j le h d g =
      at-or i n
      (λ e. rw (e, upto-suc n) (
      clear-there F cols c n (upto n) (λ q. d (e ∙ q)) j g (row_fits F rows cols (upto n) (made-matrix F rows cols M (upto-made n (omega arith) l start)) n (omega arith))
      ∙ rw (upto-later n n j (omega arith) g, upto-later n n c (omega arith) hk, upto-pivot n j g)))
      (λ o. rw upto-suc (clear-elsewhere F cols c n (upto n) i j o g ∙ upto-below M n i j (omega arith) (omega arith) d g))

  module _ (R : Reduced F rows cols c l) (one : entry cols l c c ≡ 1) where
    all : (i j : ℕ) → i < rows → i ≢ c → j < cols → entry cols (upto rows) i j ≡ entry cols l i j ⊕ mul F (entry cols l i c) (entry cols l c j)
    all i j h d g = upto-below R.matrix rows i j (omega arith) h d g

    -- before column c nothing changes
    early : (i j : ℕ) → i < rows → i ≢ c → j < c → entry cols (upto rows) i j ≡ entry cols l i j
    early i j h d g = all i j h d (omega arith) ∙ rw (R.zero_off c j hc g (omega arith), mul-zero-right) (zero_right _)

    -- in column c the entry meets itself
    gone : (i : ℕ) → i < rows → i ≢ c → entry cols (upto rows) i c ≡ 0
    gone i h d = all i c h d hk ∙ rw (one, mul-one-right F (entry cols l i c) (R.matrix.small i c h hk)) (add-self (entry cols l i c))

    upto-reduced : Reduced F rows cols (suc c) (upto rows)
    upto-reduced =
        record {
          matrix = made-matrix F rows cols R.matrix (upto-made rows (omega arith) l start);
          one_at = λ j h. at-or j c (λ e. rw e (upto-pivot rows c hk ∙ one)) (λ d. early j j (omega arith) d (omega arith) ∙ R.one_at j (omega arith));
          zero_off = λ i j hi h n. at-or i c
              (λ e. rw e (upto-pivot rows j (omega arith) ∙ R.zero_off c j hc (omega arith) (omega arith)))
              (λ d. at-or j c (λ e. rw e (gone i hi d)) (λ o. early i j hi d (omega arith) ∙ R.zero_off i j hi (omega arith) n));
        }

-- ---- a column, whose first usable row is p
module _ (F : Modulus) (field : Cyclic F) (rows cols c p : ℕ) (l : List ℕ) (hc : c < rows) (hp : p < rows) (hk : c < cols) (le : c ≤ p) (R : Reduced F rows cols c l) (usable : entry cols l p c ≢ 0) where
  here : entry cols (place_pivot cols p c l).mat c c ≢ 0
  here e = usable (sym (place-pivot F rows cols c p l hc hp hk le R) ∙ e)

  pub column-made : (l₀ : List ℕ) → Made F rows cols l₀ l → Made F rows cols l₀ (reduce_column F rows cols c p l).mat
  unfolding reduce_column clear_column
  column-made l₀ s =
      upto-made F rows cols c _ hc hk rows (omega arith) l₀
      (scale-made F field rows cols c _ hc hk (place-reduced F rows cols c p l hc hp hk le R) here l₀ (place-made F rows cols c p l hc hp l₀ s))

  pub column-reduced : Reduced F rows cols (suc c) (reduce_column F rows cols c p l).mat
  unfolding reduce_column clear_column
  column-reduced =
      let A = place-reduced F rows cols c p l hc hp hk le R in
      upto-reduced F rows cols c _ hc hk (scale-reduced F field rows cols c _ hc hk A here) (scale_one F field rows cols c _ hc hk A here)
