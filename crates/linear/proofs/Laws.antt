-- What callers use of elimination, over the field of `theory`; `Vector` and `Inverted` do the same for the kernel vector and the inverse.
-- Nothing else of elimination is needed above.
use mathlib.Core.Path.{◌≡◌, ap, subst}
use mathlib.Core.List.{List}
use Prim.Native.Nat.{ℕ, ◌+◌, ◌*◌, ◌<◌, ◌≤◌}
use native.Mathlib.Omega.{arith}
use lib.ListN.{length}
use Rattle.lists.specs.Loops.{tab}
use Rattle.lists.proofs.Tables.{length-tab, get_or-tab}
use Rattle.theory.specs.Field.{Field}
use Rattle.theory.specs.Word.{IsZero, NonZero}
use Rattle.theory.specs.Matrix.{Row, Mat, Agree, Ker, LeftKer, Linear, Narrow, Rows, Inj, UnitBelow, Stopped, stop_vector, Steps}
use Rattle.theory.proofs.Place.{below_or}
use Rattle.theory.proofs.Steps.{steps-rows, steps-inj, steps-kernel, kernel-steps, steps-narrow}
use Rattle.theory.proofs.Reduced.{reduced-unique, stopped-kernel, stop-nonzero, regular-left, regular-right}
use Rattle.theory.proofs.Singular.{stopped-left}
use Rattle.gf.specs.Field.{Modulus, size}
use Rattle.gf.proofs.Cyclic.{Cyclic}
use Rattle.gf.proofs.Elements.{el, field_of}
use Rattle.gf.proofs.Runs.{AllElements}
use Rattle.linear.specs.Matrix.{Matrix, entry}
use Rattle.linear.specs.Columns.{Reduced}
use Rattle.linear.specs.Inverse.{LeftHalf}
use Rattle.linear.specs.Elimination.{Done, eliminated}
use Rattle.linear.proofs.Steps.{entry-within}
use Rattle.linear.proofs.Made.{made-matrix, made-length}
use Rattle.linear.proofs.Ends.{Ends, ends}
use Rattle.linear.proofs.View.{view, made-steps, reduced-unit}

-- ---- where every number of the list is an element
pub elements-matrix : (F : Modulus) (rows cols : ℕ) (l : List ℕ) → rows * cols ≤ length l → AllElements F l → Matrix F rows cols l
elements-matrix F rows cols l fits all = record { fits = fits; small = λ i j hi hj. all (i * cols + j) }

pub elements-left : (F : Modulus) (n : ℕ) (l : List ℕ) → n * (n + n) ≤ length l → AllElements F l → LeftHalf F n l
elements-left F n l fits all = record { fits = fits; small = λ i j hi hj. all (i * (n + n) + j) }

-- ---- a matrix that is filled place after place
module _ (rows cols : ℕ) (f : ℕ → ℕ) where
  pub tab-entry : (i j : ℕ) → i < rows → j < cols → entry cols (tab (rows * cols) f) i j ≡ f (i * cols + j)
  tab-entry i j hi hj = get_or-tab (rows * cols) f (i * cols + j) (entry-within i j rows cols (rows * cols) hi hj (omega arith))

  pub tab-matrix : (F : Modulus) → ((p : ℕ) → p < rows * cols → f p < size F) → Matrix F rows cols (tab (rows * cols) f)
  tab-matrix F small =
      record {
        fits = rw length-tab (omega arith);
        small = λ i j hi hj. rw (tab-entry i j hi hj) (small _ (entry-within i j rows cols (rows * cols) hi hj (omega arith)));
      }

-- ---- elimination
module _ (F : Modulus) (field : Cyclic F) (rows cols limit : ℕ) (hr : limit ≤ rows) (hc : limit ≤ cols) (l : List ℕ) (M : Matrix F rows cols l) where
  abbrev K : Field
  K = field_of F field

  abbrev end : Done
  end = eliminated F rows cols limit l

  E : Ends F rows cols limit l (eliminated F rows cols limit l)
  E = ends F field rows cols limit hr hc l M

  -- the end is again a matrix of elements, as long as before
  pub end-matrix : Matrix F rows cols end.mat
  end-matrix = made-matrix F rows cols M E.made

  pub end-length : length end.mat ≡ length l
  end-length = made-length F rows cols E.made

  pub end-within : end.cols ≤ limit
  end-within = E.within

  -- its columns done are those of the identity matrix, as numbers
  pub end-reduced : Reduced F rows cols end.cols end.mat
  end-reduced = E.reduced

  -- it comes from the matrix before by row operations
  pub end-steps : Steps K rows cols (view F cols l) (view F cols end.mat)
  end-steps = made-steps F field rows cols M E.made

  -- L-rows: a predicate closed under sum and multiple, true of all rows before, is true of all after
  pub end-rows : (L : Row K → Type 0) → Linear K L → Narrow K cols L → Rows K L rows (view F cols l) → Rows K L rows (view F cols end.mat)
  end-rows L lin nar before = steps-rows K rows cols L lin nar before end-steps

  -- L-inj: what only x = 0 takes to P before, only x = 0 does after
  pub end-inj : (P : Row K → Type 0) → Narrow K cols P → Inj K P rows (view F cols l) → Inj K P rows (view F cols end.mat)
  end-inj P nar before = steps-inj K rows cols P nar before end-steps

  -- the right kernel is the same before and after
  pub kernel-after : (v : Row K) → Ker K rows cols (view F cols l) v → Ker K rows cols (view F cols end.mat) v
  kernel-after v = steps-kernel K rows cols v end-steps

  pub kernel-before : (v : Row K) → Ker K rows cols (view F cols end.mat) v → Ker K rows cols (view F cols l) v
  kernel-before v = kernel-steps K rows cols v end-steps

  -- L-done: the columns done are those of the identity matrix
  pub end-unit : UnitBelow K rows end.cols (view F cols end.mat)
  end-unit = reduced-unit F field rows cols end.cols end.mat E.reduced

  pub end-done : end.cols ≡ rows → UnitBelow K rows rows (view F cols end.mat)
  end-done e = subst (λ (c : ℕ). UnitBelow K rows c (view F cols end.mat)) e end-unit

  -- and the end is the only reduced form
  pub end-unique : end.cols ≡ rows → rows ≤ cols → (N : Mat K) → Steps K rows cols (view F cols l) N → UnitBelow K rows rows N → Agree K rows cols (view F cols end.mat) N
  end-unique e le N s U = reduced-unique K rows cols le end-steps s (end-done e) U

  -- L-stop: at a column without a usable row, or past the last row, there is no entry from the pivot row down
  pub end-early : end.cols < limit → Stopped K rows end.cols (view F cols end.mat)
  end-early h = record { done = end-unit; none = λ i hi g. ap (el F) (E.none h i g hi) }

  pub end-stopped : limit ≡ rows → Stopped K rows end.cols (view F cols end.mat)
  end-stopped e = record { done = end-unit; none = λ i hi g. ap (el F) (E.none (omega arith) i g hi) }

-- ---- elimination as far as the rows go
module _ (F : Modulus) (field : Cyclic F) (rows cols : ℕ) (h : rows ≤ cols) (l : List ℕ) (M : Matrix F rows cols l) where
  abbrev Kr : Field
  Kr = field_of F field

  abbrev whole : Done
  whole = eliminated F rows cols rows l

  same : rows ≤ rows
  same = omega arith

  -- fewer columns done than rows: the first `rows` columns, a square matrix, have kernels that are not zero
  pub short-right : whole.cols < rows → (v : Row Kr) × NonZero Kr rows v × Ker Kr rows rows (view F cols l) v
  short-right lt =
      let s = steps-narrow Kr rows cols rows h (end-steps F field rows cols rows same h l M) in
      (stop_vector Kr whole.cols (view F cols whole.mat), stop-nonzero Kr rows whole.cols _ lt, stopped-kernel Kr rows rows whole.cols lt s (end-early F field rows cols rows same h l M lt))

  pub short-left : whole.cols < rows → (y : Row Kr) × NonZero Kr rows y × LeftKer Kr rows rows (view F cols l) y
  short-left lt =
      stopped-left Kr rows cols whole.cols lt h (end-steps F field rows cols rows same h l M) (end-early F field rows cols rows same h l M lt)

  -- all rows have a pivot: these kernels are zero
  pub full-right : whole.cols ≡ rows → (v : Row Kr) → Ker Kr rows rows (view F cols l) v → IsZero Kr rows v
  full-right e = regular-right Kr rows cols h (end-steps F field rows cols rows same h l M) (end-done F field rows cols rows same h l M e)

  pub full-left : whole.cols ≡ rows → (y : Row Kr) → LeftKer Kr rows rows (view F cols l) y → IsZero Kr rows y
  full-left e = regular-left Kr rows cols h (end-steps F field rows cols rows same h l M) (end-done F field rows cols rows same h l M e)

  -- and the other way: where one of them is zero, all rows have a pivot
  none-short : (whole.cols < rows → ⊥) → whole.cols ≡ rows
  none-short n = below_or whole.cols rows (λ lt. absurd (n lt)) (λ le. omega (arith, end-within F field rows cols rows same h l M))

  pub right-full : ((v : Row Kr) → Ker Kr rows rows (view F cols l) v → IsZero Kr rows v) → whole.cols ≡ rows
  right-full z = none-short (λ lt. let (v, (p, a, d), k) = short-right lt in d (z v k p a))

  pub left-full : ((y : Row Kr) → LeftKer Kr rows rows (view F cols l) y → IsZero Kr rows y) → whole.cols ≡ rows
  left-full z = none-short (λ lt. let (y, (p, a, d), k) = short-left lt in d (z y k p a))
