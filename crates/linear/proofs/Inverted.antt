-- The inverse: where it is found, the right half times the matrix is the identity, on both sides; where it is not, the matrix has a left
-- kernel that is not zero, and so the answer tells singular from regular.
use mathlib.Core.Path.{◌≡◌, sym, ap, ◌∙◌}
use mathlib.Core.List.{List}
use Prim.Native.Nat.{ℕ, ◌+◌, ◌<◌, ◌≤◌}
use native.Mathlib.Omega.{arith}
use lib.ListN.{length}
use borrow.Author.Tests.{eq-eqb, ne_eqb}
use Rattle.theory.specs.Field.{Field}
use Rattle.theory.specs.Word.{IsZero, NonZero, unit, sum}
use Rattle.theory.specs.Matrix.{Row, Agree, LeftKer, UnitBelow, Steps}
use Rattle.theory.proofs.Place.{at-or}
use Rattle.theory.proofs.Sum.{unit-same, unit-other}
use Rattle.theory.proofs.RowOps.{comb-agree}
use Rattle.theory.proofs.Reduced.{inverse_left, inverse-right}
use Rattle.gf.specs.Field.{Modulus}
use Rattle.gf.proofs.Cyclic.{Cyclic}
use Rattle.gf.proofs.Elements.{El, el, field_of}
use Rattle.linear.specs.Matrix.{Matrix}
use Rattle.linear.specs.Inverse.{LeftHalf, identity, beside, inverted}
use Rattle.linear.proofs.Beside.{beside-left, beside-right, beside-matrix, beside-length}
use Rattle.linear.proofs.View.{view}
use Rattle.linear.proofs.Laws.{end-matrix, end-length, end-within, end-steps, end-done, short-left, full-left, left-full}

module _ (F : Modulus) (field : Cyclic F) (n : ℕ) (l : List ℕ) (H : LeftHalf F n l) where
  abbrev K : Field
  K = field_of F field

  -- the matrix, and after elimination its inverse
  abbrev A : ℕ → ℕ → El F
  A = view F (n + n) l

  abbrev B : ℕ → ℕ → El F
  B i j = view F (n + n) (inverted F n l).mat i (n + j)

  J : Matrix F n (n + n) (beside n l)
  J = beside-matrix n l F H

  half : n ≤ n + n
  half = omega arith

  same : n ≤ n
  same = omega arith

  pub inverted-matrix : Matrix F n (n + n) (inverted F n l).mat
  unfolding inverted
  inverted-matrix = end-matrix F field n (n + n) n same half (beside n l) J

  pub inverted-length : length (inverted F n l).mat ≡ length l
  unfolding inverted
  inverted-length = end-length F field n (n + n) n same half (beside n l) J ∙ beside-length n l

  pub inverted-within : (inverted F n l).cols ≤ n
  unfolding inverted
  inverted-within = end-within F field n (n + n) n same half (beside n l) J

  left : Agree K n n (view F (n + n) (beside n l)) A
  left i j hi hj = ap (el F) (beside-left n l i j hj)

  el-identity : (i j : ℕ) → el F (identity i j) ≡ unit K i j
  el-identity i j =
      at-or j i (λ e. rw (eq-eqb i j (sym e)) (sym (unit-same K i j e))) (λ d. rw (ne_eqb i j (λ e. d (sym e))) (sym (unit-other K i j d)))

  right : (i j : ℕ) → i < n → j < n → view F (n + n) (beside n l) i (n + j) ≡ unit K i j
  right i j hi hj = ap (el F) (beside-right n l H.fits i j hi hj) ∙ el-identity i j

  steps : Steps K n (n + n) (view F (n + n) (beside n l)) (view F (n + n) (inverted F n l).mat)
  unfolding inverted
  steps = end-steps F field n (n + n) n same half (beside n l) J

  done : (inverted F n l).cols ≡ n → UnitBelow K n n (view F (n + n) (inverted F n l).mat)
  unfolding inverted
  done e = end-done F field n (n + n) n same half (beside n l) J e

  -- found: B·A and A·B are the identity
  pub found_left : (inverted F n l).cols ≡ n → (i c : ℕ) → i < n → c < n → sum K (λ j. K.mul (B i j) (A j c)) n ≡ unit K i c
  found_left e = inverse_left K n A _ _ left right steps (done e)

  pub found_right : (inverted F n l).cols ≡ n → (i c : ℕ) → i < n → c < n → sum K (λ j. K.mul (A i j) (B j c)) n ≡ unit K i c
  found_right e = inverse-right K n A _ _ left right steps (done e)

  -- the left kernel of the matrix is that of the left half
  kernel-to : (y : Row K) → LeftKer K n n A y → LeftKer K n n (view F (n + n) (beside n l)) y
  kernel-to y k c h = comb-agree K y n n _ A left c h ∙ k c h

  kernel-from : (y : Row K) → LeftKer K n n (view F (n + n) (beside n l)) y → LeftKer K n n A y
  kernel-from y k c h = sym (comb-agree K y n n _ A left c h) ∙ k c h

  -- found exactly where the left kernel is zero
  pub found-regular : (inverted F n l).cols ≡ n → (y : Row K) → LeftKer K n n A y → IsZero K n y
  unfolding inverted
  found-regular e y k = full-left F field n (n + n) half (beside n l) J e y (kernel-to y k)

  pub regular-found : ((y : Row K) → LeftKer K n n A y → IsZero K n y) → (inverted F n l).cols ≡ n
  unfolding inverted
  regular-found z = left-full F field n (n + n) half (beside n l) J (λ y k. z y (kernel-from y k))

  -- singular: a row that is not zero and that the matrix takes to zero
  pub singular-left : (inverted F n l).cols < n → (y : Row K) × NonZero K n y × LeftKer K n n A y
  unfolding inverted
  singular-left h =
      let (y, o, k) = short-left F field n (n + n) half (beside n l) J h in
      (y, o, kernel-from y k)
