-- The kernel vector: it is in the kernel of the matrix before elimination and is not zero; and it solves a system whose matrix is regular.
use mathlib.Core.Path.{◌≡◌, refl, sym, ap, ◌∙◌}
use mathlib.Core.List.{List}
use Prim.Native.Nat.{ℕ, suc, ◌<◌, ◌≤◌}
use native.Mathlib.Omega.{arith}
use lib.ListN.{length, get_or}
use Rattle.lists.proofs.Tables.{length-tab, get_or-tab}
use Rattle.theory.specs.Field.{Field}
use Rattle.theory.specs.Word.{NonZero, sum}
use Rattle.theory.specs.Matrix.{Ker, stop_vector}
use Rattle.theory.proofs.Field.{mul-one, eq-of-add}
use Rattle.theory.proofs.Place.{at-or, below_or}
use Rattle.theory.proofs.Sum.{sum-suc}
use Rattle.theory.proofs.Steps.{ker-agree}
use Rattle.theory.proofs.Reduced.{stopped-kernel, stop-below, stop-at, stop-above}
use Rattle.gf.specs.Field.{Modulus, size}
use Rattle.gf.proofs.Ring.{one-lt}
use Rattle.gf.proofs.Cyclic.{Cyclic}
use Rattle.gf.proofs.Elements.{El, el, field_of, one_not_zero}
use Rattle.linear.specs.Matrix.{Matrix, entry}
use Rattle.linear.specs.Elimination.{Done, eliminated}
use Rattle.linear.specs.Kernel.{kernel_at, kernel_vector}
use Rattle.linear.proofs.Reading.{kernel-below, kernel-one, kernel-zero}
use Rattle.linear.proofs.View.{view}
use Rattle.linear.proofs.Laws.{end-matrix, end-within, end-steps, end-stopped}

-- the list as a word of elements
abbrev pub word : (F : Modulus) → List ℕ → ℕ → El F
word F v j = el F (get_or v j 0)

module _ (F : Modulus) (field : Cyclic F) (rows cols : ℕ) (h : rows < cols) (l : List ℕ) (M : Matrix F rows cols l) where
  abbrev K : Field
  K = field_of F field

  abbrev end : Done
  end = eliminated F rows cols rows l

  same : rows ≤ rows
  same = omega arith

  less : rows ≤ cols
  less = omega arith

  pub vector-length : length (kernel_vector F rows cols l) ≡ cols
  unfolding kernel_vector
  vector-length = length-tab cols _

  vector-at : (j : ℕ) → j < cols → get_or (kernel_vector F rows cols l) j 0 ≡ kernel_at cols end.cols end.mat j
  unfolding kernel_vector
  vector-at j g = get_or-tab cols _ j g

  pub vector-place : end.cols < cols
  vector-place = omega (arith, end-within F field rows cols rows same less l M)

  below : (j : ℕ) → j < end.cols → get_or (kernel_vector F rows cols l) j 0 ≡ entry cols end.mat j end.cols
  below j g =
      let p = vector-place in
      vector-at j (omega arith) ∙ sym (kernel-below cols end.cols end.mat j g _ refl)

  -- 1 where elimination stopped
  pub vector-one : get_or (kernel_vector F rows cols l) end.cols 0 ≡ 1
  vector-one = vector-at end.cols vector-place ∙ sym (kernel-one cols end.cols end.mat end.cols (omega arith) refl)

  -- zero after it
  pub vector-zero : (j : ℕ) → end.cols < j → j < cols → get_or (kernel_vector F rows cols l) j 0 ≡ 0
  vector-zero j g k = vector-at j k ∙ sym (kernel-zero cols end.cols end.mat j (omega arith) (omega arith))

  pub vector-small : (j : ℕ) → j < cols → get_or (kernel_vector F rows cols l) j 0 < size F
  vector-small j g =
      let p = vector-place in
      let q = end-within F field rows cols rows same less l M in
      below_or j end.cols
      (λ b. rw (below j b) ((end-matrix F field rows cols rows same less l M).small j end.cols (omega arith) p))
      (λ a. at-or j end.cols (λ e. rw (e, vector-one) (one-lt F)) (λ d. rw (vector-zero j (omega arith) g) (omega (arith, one-lt F))))

  stop-agrees : (j : ℕ) → j < cols → stop_vector K end.cols (view F cols end.mat) j ≡ word F (kernel_vector F rows cols l) j
  stop-agrees j g =
      below_or j end.cols
      (λ b. stop-below K end.cols _ j b ∙ ap (el F) (sym (below j b)))
      (λ a. at-or j end.cols
      (λ e. rw e (stop-at K end.cols _ ∙ ap (el F) (sym vector-one)))
      (λ d. stop-above K end.cols _ j (omega arith) ∙ ap (el F) (sym (vector-zero j (omega arith) g))))

  -- L-stop: it is in the right kernel of the matrix before, and not zero
  pub vector-kernel : Ker K rows cols (view F cols l) (word F (kernel_vector F rows cols l))
  vector-kernel =
      ker-agree K rows cols (view F cols l) (view F cols l) _ _ (λ i c hi hc. refl) stop-agrees
      (stopped-kernel K rows cols end.cols vector-place (end-steps F field rows cols rows same less l M) (end-stopped F field rows cols rows same less l M refl))

  pub vector-nonzero : NonZero K cols (word F (kernel_vector F rows cols l))
  vector-nonzero = (end.cols, vector-place, λ e. one_not_zero F field (ap (el F) (sym vector-one) ∙ e))

  -- a system of as many equations as unknowns, its right side in the last column: with all columns done the vector is the solution
  pub vector-solves : cols ≡ suc rows → end.cols ≡ rows → (i : ℕ) → i < rows → sum K (λ c. K.mul (view F cols l i c) (word F (kernel_vector F rows cols l) c)) rows ≡ view F cols l i rows
  vector-solves e full i hi =
      eq-of-add K _ _ (ap (K.add _) (sym (mul-one K _) ∙ ap (K.mul _) (sym last)) ∙ sym (sum-suc K _ rows) ∙ ap (sum K _) (sym e) ∙ vector-kernel i hi)
    where
      last : word F (kernel_vector F rows cols l) rows ≡ K.𝟏
      last = ap (word F (kernel_vector F rows cols l)) (sym full) ∙ ap (el F) vector-one
