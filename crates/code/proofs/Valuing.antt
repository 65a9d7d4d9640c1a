-- The values: the equations of the power sums at the places found have one solution (Vandermonde), and where a code word is near, that is
-- what the word is wrong by.
use mathlib.Core.Path.{◌≡◌, sym, ap, ◌∙◌}
use mathlib.Core.List.{List}
use Prim.Native.Nat.{ℕ, suc, ◌+◌, ◌*◌, ◌≤◌, ◌<◌}
use native.Mathlib.Nat as N
use native.Mathlib.Numerals.{add-one}
use native.Mathlib.Omega.{arith}
use lib.ListN.{length, get_or}
use Rattle.theory.specs.Word.{Places, Off, IsZero, sum, pow}
use Rattle.theory.specs.Code.{Points, syn}
use Rattle.theory.specs.Matrix.{Ker}
use Rattle.theory.proofs.Field.{add-self-left, add-self, mul_comm, add_left_comm}
use Rattle.theory.proofs.Place.{below_or}
use Rattle.theory.proofs.Sum.{sum-ext}
use Rattle.theory.proofs.Weight.{wt-max}
use Rattle.theory.proofs.Distance.{vandermonde, points-at, syn-received}
use Rattle.theory.proofs.Decode.{values}
use Rattle.gf.specs.Field.{Modulus, width, order, ◌⊕◌, power, alpha}
use Rattle.gf.proofs.Xor.{add-lt}
use Rattle.gf.proofs.Ring.{alpha-lt, power-alpha}
use Rattle.gf.proofs.Cyclic.{Cyclic}
use Rattle.gf.proofs.Elements.{El, el, plus, times, el-xor, el-injective, alpha-points}
use Rattle.linear.specs.Matrix.{Matrix, entry}
use Rattle.linear.specs.Elimination.{eliminated}
use Rattle.linear.specs.Kernel.{kernel_vector}
use Rattle.linear.proofs.View.{view}
use Rattle.linear.proofs.Laws.{right-full}
use Rattle.linear.proofs.Vector.{vector-solves, vector-small}
use Rattle.code.specs.Decoding.{Near}
use Rattle.code.specs.Stages.{Elements, Powers, PowerRows, Summed, Suspects, Values}
use Rattle.code.proofs.Bridge.{K, X, word, point-pow, sum-syn, code_is}
use Rattle.code.proofs.Locating.{summed-at}

-- ---- the points at the places
pub point-there : (F : Modulus) (n : ℕ) (sums places points to : List ℕ) → Suspects F n sums places → Powers F 0 points → length points ≡ n → ((k : ℕ) → k < length places → get_or to k 0 ≡ get_or points (get_or places k 0) 0)
    → (k : ℕ) → k < length places → get_or to k 0 ≡ alpha F (get_or places k 0)
point-there F n sums places points to S P e g k h =
    let z : 0 + get_or places k 0 ≡ get_or places k 0 = omega arith in
    g k h ∙ P.is (get_or places k 0) (omega (arith, S.below k h)) ∙ ap (alpha F) z

pub points-small : (F : Modulus) (n : ℕ) (sums places points to : List ℕ) → Suspects F n sums places → Powers F 0 points → length points ≡ n → ((k : ℕ) → k < length places → get_or to k 0 ≡ get_or points (get_or places k 0) 0) → length to ≡ length places → Elements F to
points-small F n sums places points to S P e g len =
    record { small = λ k h. let lt : k < length places = omega arith in rw (point-there F n sums places points to S P e g k lt) (alpha-lt F _) }

module _ (F : Modulus) (n : ℕ) (sums places points mat : List ℕ) (small : Elements F sums) (S : Suspects F n sums places) (as-many : length points ≡ length places) (there : (k : ℕ) → k < length places → get_or points k 0 ≡ alpha F (get_or places k 0)) (R : PowerRows F (length points) points sums mat) where
  abbrev r : ℕ
  r = length places

  value-entry : (i j : ℕ) → i < length places → j < length places → entry (length places + 1) mat i j ≡ alpha F (get_or places j 0 * (i + 1))
  value-entry i j hi hj =
      rw as-many at (R.there i j (omega arith) (omega arith))
      ∙ ap (λ (x : ℕ). power F x (i + 1)) (there j hj) ∙ power-alpha F (get_or places j 0) (i + 1) ∙ ap (alpha F) (N.mul_comm (i + 1) (get_or places j 0))

  last_entry : (i : ℕ) → i < length places → entry (length places + 1) mat i (length places) ≡ get_or sums i 0
  last_entry i hi = rw as-many at (R.last i (omega arith))

  pub value-matrix : length places * (length places + 1) ≤ length mat → Matrix F (length places) (length places + 1) mat
  value-matrix fits =
      record {
        fits = fits;
        small = λ i j hi hj. below_or j (length places)
            (λ h. rw (value-entry i j hi h) (alpha-lt F _))
            (λ h. let e : j ≡ length places = omega arith in rw (e, last_entry i hi) (small.small i (omega (arith, S.few))));
      }

  module _ (field : Cyclic F) (fits : n ≤ order F) (M : Matrix F (length places) (length places + 1) mat) where
    abbrev vector : List ℕ
    vector = kernel_vector F (length places) (length places + 1) mat

    lt : length places < length places + 1
    lt = omega arith

    le : length places ≤ length places + 1
    le = omega arith

    -- ---- the solution
    Q : Places n (length places) (λ k. get_or places k 0)
    Q = record { below = S.below; apart = λ i k h g e. omega (arith, S.rising i k h g) }

    all-points : Points (K F field) (X F field) n
    all-points = alpha-points F field n fits

    left : (i j : ℕ) → i < length places → j < length places → view F (length places + 1) mat i j ≡ pow (K F field) (X F field (get_or places j 0)) (suc i)
    left i j hi hj =
        ap (el F) (value-entry i j hi hj) ∙ rw (add-one i) (sym (point-pow F field (get_or places j 0) (suc i)))

    -- the power sums of v at the places, as the rows of the matrix say them
    turned : (v : ℕ → El F) (i : ℕ) → i < length places → sum (K F field) (λ k. times F (v k) (pow (K F field) (X F field (get_or places k 0)) (suc i))) (length places) ≡ sum (K F field) (λ j. times F (view F (length places + 1) mat i j) (v j)) (length places)
    turned v i hi =
        sum-ext (K F field) _ _ (length places) (λ j h. mul_comm (K F field) (v j) _ ∙ ap (λ (x : El F). times F x (v j)) (sym (left i j hi h)))

    only_zero : (v : ℕ → El F) → Ker (K F field) (length places) (length places) (view F (length places + 1) mat) v → IsZero (K F field) (length places) v
    only_zero v k =
        vandermonde (K F field) (λ j. X F field (get_or places j 0)) (length places) (points-at (K F field) (X F field) n all-points (length places) (λ k. get_or places k 0) Q) (length places) v (wt-max (K F field) v (length places))
        (λ i h. unfold syn in turned v i h ∙ k i h)

    full : (eliminated F (length places) (length places + 1) (length places) mat).cols ≡ length places
    full = right-full F field (length places) (length places + 1) le mat M only_zero

    -- ---- a word with these sums, and a code word near it
    module _ (t : ℕ) (y c : List ℕ) (two : t + t ≡ length sums) (Y : Summed F n sums y) (N : Near F n t y c) where
      right : (i : ℕ) → i < length places → view F (length places + 1) mat i (length places) ≡ syn (K F field) (X F field) n (word F field y) (suc i)
      right i hi =
          ap (el F) (last_entry i hi ∙ summed-at F n sums y Y i (omega (arith, S.few))) ∙ sum-syn F field n (λ i. get_or y i 0) (suc i)

      solves : (i : ℕ) → i < length places → sum (K F field) (λ k. times F (word F field vector k) (pow (K F field) (X F field (get_or places k 0)) (suc i))) (length places) ≡ syn (K F field) (X F field) n (word F field y) (suc i)
      solves i h =
          turned (word F field vector) i h ∙ vector-solves F field (length places) (length places + 1) lt mat M (add-one (length places)) full i h ∙ right i h

      abbrev e : ℕ → El F
      e i = plus F (word F field c i) (word F field y i)

      sent : (i : ℕ) → i < n → word F field y i ≡ plus F (word F field c i) (e i)
      sent i h = sym (add-self-left (K F field) (word F field c i) (word F field y i))

      no-error : (i : ℕ) → i < n → Off (length places) (λ k. get_or places k 0) i → e i ≡ (K F field).𝟎
      no-error i h o =
          ap (λ (x : ℕ). plus F (el F x) (word F field y i)) (S.errors t y c two Y N i h o) ∙ add-self (K F field) (word F field y i)

      value-is : (k : ℕ) → k < length places → word F field vector k ≡ e (get_or places k 0)
      value-is =
          values (K F field) (X F field) n all-points (length places) (length places) (λ k. get_or places k 0) e (word F field vector) (omega (arith, S.few)) Q no-error
          (λ j h. solves j h ∙ syn-received (K F field) (X F field) n (t + t) (word F field y) (word F field c) e (code_is F field n (t + t) c N.code) sent j (omega (arith, S.few)))

      right-value : (k : ℕ) → k < length places → get_or c (get_or places k 0) 0 ≡ get_or y (get_or places k 0) 0 ⊕ get_or vector k 0
      right-value k g =
          let p = get_or places k 0 in
          let b = S.below k g in
          sym (el-injective F field _ _ (add-lt (width F) _ _ (Y.small.small p (omega (arith, Y.long))) (vector-small F field (length places) (length places + 1) lt mat M k (omega arith))) (N.code.small p b)
          (el-xor F field _ _
          ∙ ap (plus F (word F field y p)) (value-is k g)
          ∙ add_left_comm (K F field) (word F field y p) (word F field c p) (word F field y p) ∙ ap (plus F (word F field c p)) (add-self (K F field) _) ∙ (K F field).add_zero _))

    pub valued : (v : List ℕ) → v ≡ kernel_vector F (length places) (length places + 1) mat → Values F n sums places v
    valued v V =
        record {
          small = λ k h. rw V (vector-small F field (length places) (length places + 1) lt mat M k (omega arith));
          right = λ t y c two Y N k h. rw V (right-value t y c two Y N k h);
        }
