-- The places that may be wrong: the kernel vector of the key equations vanishes at each place where a code word near the word differs from
-- it (locator), and at no more than t places (root count); so the places collected are all of these.
use mathlib.Core.Path.{◌≡◌, refl, sym, ap, ◌∙◌}
use mathlib.Core.Logic.{◌≢◌}
use mathlib.Core.List.{List}
use Prim.Native.Nat.{ℕ, suc, ◌+◌, ◌*◌, ◌≤◌, ◌<◌}
use native.Mathlib.Numerals.{add-one}
use native.Mathlib.Omega.{arith}
use lib.ListN.{length, get_or, take}
use lib.Seq.{get_or-take, length-take-le}
use Rattle.theory.specs.Word.{put, Places, Off, NonZero}
use Rattle.theory.specs.Code.{Points, syn, ev}
use Rattle.theory.specs.Matrix.{Ker}
use Rattle.theory.proofs.Field.{add-self-left, eq-of-add}
use Rattle.theory.proofs.Place.{at-or, below_or, put_same, put_other}
use Rattle.theory.proofs.Weight.{wt-places}
use Rattle.theory.proofs.Poly.{few-roots}
use Rattle.theory.proofs.Steps.{ker-agree}
use Rattle.theory.proofs.Decode.{no-error}
use Rattle.gf.specs.Field.{Modulus, order}
use Rattle.gf.proofs.Cyclic.{Cyclic}
use Rattle.gf.proofs.Elements.{El, el, plus, el-injective, alpha-points}
use Rattle.linear.specs.Matrix.{Matrix, entry}
use Rattle.linear.specs.Elimination.{eliminated}
use Rattle.linear.specs.Kernel.{kernel_vector, Kernel}
use Rattle.linear.proofs.View.{view}
use Rattle.linear.proofs.Vector.{vector-kernel, vector-nonzero, vector-small, vector-length}
use Rattle.code.specs.Words.{sum_of, power_sum}
use Rattle.code.specs.Decoding.{Near}
use Rattle.code.specs.Stages.{Elements, PowerSums, Collected, Summed, Suspects}
use Rattle.code.proofs.Bridge.{K, X, word, sum_lt, zero-of-el, sum-syn, sum-ev, code_is, wt-apart}

-- a power sum of the word, from the sums that stand ready
pub summed-at : (F : Modulus) (n : ℕ) (sums y : List ℕ) → Summed F n sums y → (j : ℕ) → j < length sums → get_or sums j 0 ≡ power_sum F n y (suc j)
summed-at F n sums y S j h =
    let q : 1 + j ≡ suc j = omega arith in
    S.sums_are.is j h ∙ rw (S.long, q)

-- the vector that the kernel call leaves
pub kernel-is : (F : Modulus) (rows cols : ℕ) (l l' v : List ℕ) (r : ℕ) → Kernel cols (eliminated F rows cols rows l) l' v r → v ≡ kernel_vector F rows cols l
unfolding kernel_vector
kernel-is F rows cols l l' v r k = k.vector

-- ---- the matrix of the key equations
pub key-matrix : (F : Modulus) (t : ℕ) (sums mat : List ℕ) → Elements F sums → length sums ≡ t + t → length mat ≡ t * (t + 1) → ((i j : ℕ) → i < t → j < t + 1 → entry (t + 1) mat i j ≡ get_or sums (i + j) 0) → Matrix F t (t + 1) mat
key-matrix F t sums mat small two fits H =
    record {
      fits = omega arith;
      small = λ i j hi hj. rw (H i j hi hj) (small.small (i + j) (omega arith));
    }

-- ---- the kernel vector, its values, and the places collected
module _ (F : Modulus) (field : Cyclic F) (n t : ℕ) (sums mat : List ℕ) (two : length sums ≡ t + t) (M : Matrix F t (t + 1) mat) (H : (i j : ℕ) → i < t → j < t + 1 → entry (t + 1) mat i j ≡ get_or sums (i + j) 0) where
  abbrev vector : List ℕ
  vector = kernel_vector F t (t + 1) mat

  lt : t < t + 1
  lt = omega arith

  pub locator-small : (v : List ℕ) → v ≡ kernel_vector F t (t + 1) mat → Elements F v
  locator-small v e = record { small = λ j h. let g : j < t + 1 = omega (arith, ap length e, vector-length F field t (t + 1) lt mat M) in rw e (vector-small F field t (t + 1) lt mat M j g) }

  nonzero : NonZero (K F field) (suc t) (word F field vector)
  nonzero = rw (← (add-one t)) (vector-nonzero F field t (t + 1) lt mat M)

  module _ (y : List ℕ) (S : Summed F n sums y) where
    mat-entry : (i j : ℕ) → i < t → j < t + 1 → view F (t + 1) mat i j ≡ syn (K F field) (X F field) n (word F field y) (suc (i + j))
    mat-entry i j hi hj =
        ap (el F) (H i j hi hj ∙ summed-at F n sums y S (i + j) (omega arith))
        ∙ sum-syn F field n (λ i. get_or y i 0) (suc (i + j))

    key : Ker (K F field) t (suc t) (λ i j. syn (K F field) (X F field) n (word F field y) (suc (i + j))) (word F field vector)
    key =
        rw (← (add-one t))
        (ker-agree (K F field) t (t + 1) (view F (t + 1) mat) _ (word F field vector) (word F field vector) mat-entry (λ c h. refl) (vector-kernel F field t (t + 1) lt mat M))

  module _ (v u : List ℕ) (V : v ≡ kernel_vector F t (t + 1) mat) (E : PowerSums F v 0 u) (long : length u ≡ n) where
    value : (p : ℕ) → p < n → get_or u p 0 ≡ sum_of F (suc t) (λ j. get_or vector j 0) p
    value p h =
        let z : 0 + p ≡ p = omega arith in
        let len : length (kernel_vector F t (t + 1) mat) ≡ suc t = vector-length F field t (t + 1) lt mat M ∙ add-one t in
        E.is p (omega arith) ∙ rw (z, V, len)

    value-el : (p : ℕ) → p < n → el F (get_or u p 0) ≡ ev (K F field) (word F field vector) (suc t) (X F field p)
    value-el p h = ap (el F) (value p h) ∙ sum-ev F field (suc t) (λ j. get_or vector j 0) p

    root-of-zero : (p : ℕ) → p < n → get_or u p 0 ≡ 0 → ev (K F field) (word F field vector) (suc t) (X F field p) ≡ (K F field).𝟎
    root-of-zero p h e = sym (value-el p h) ∙ ap (el F) e

    zero-of-root : (p : ℕ) → p < n → ev (K F field) (word F field vector) (suc t) (X F field p) ≡ (K F field).𝟎 → get_or u p 0 ≡ 0
    zero-of-root p h e =
        zero-of-el F field _ (rw (value p h) (sum_lt F (suc t) _ p)) (value-el p h ∙ e)

    module _ (fits : n ≤ order F) (q : List ℕ) (r : ℕ) (room : length q ≡ t) (C : Collected u n q r) where
      Q : Places n r (λ k. get_or q k 0)
      Q = record { below = C.below; apart = λ i k h g e. omega (arith, C.rising i k h g) }

      root : (k : ℕ) → k < r → ev (K F field) (word F field vector) (suc t) (X F field (get_or q k 0)) ≡ (K F field).𝟎
      root k h = root-of-zero (get_or q k 0) (C.below k h) (C.root k h)

      P : Points (K F field) (X F field) n
      P = alpha-points F field n fits

      -- one place more would be one root too many
      more : (i : ℕ) → i < n → ev (K F field) (word F field vector) (suc t) (X F field i) ≡ (K F field).𝟎 → Off r (λ k. get_or q k 0) i → t ≤ r → ⊥
      more i h e o full =
          omega (arith, C.few, few-roots (K F field) (X F field) n P t (word F field vector) nonzero, wt-places (K F field) (suc r) (λ j. ev (K F field) (word F field vector) (suc t) (X F field j)) n (put (λ k. get_or q k 0) r i) Q' root')
        where
          at : (k : ℕ) → k < r → put (λ k. get_or q k 0) r i k ≡ get_or q k 0
          at k g = put_other (λ k. get_or q k 0) r i k (omega arith)

          new : put (λ k. get_or q k 0) r i r ≡ i
          new = put_same (λ k. get_or q k 0) r i r refl

          Q' : Places n (suc r) (put (λ k. get_or q k 0) r i)
          Q' =
              record {
                below = λ k g. at-or k r (λ q. rw (q, new) h) (λ d. let b : k < r = omega arith in rw (at k b) (C.below k b));
                apart = λ a b g f. at-or b r
                    (λ q. let c : a < r = omega arith in rw (q, new, at a c) (λ z. o a c (sym z)))
                    (λ d. let c : b < r = omega arith in let x : a < r = omega arith in rw (at b c, at a x) (Q.apart a b g c));
              }

          root' : (k : ℕ) → k < suc r → ev (K F field) (word F field vector) (suc t) (X F field (put (λ k. get_or q k 0) r i k)) ≡ (K F field).𝟎
          root' k g = at-or k r (λ q. rw (q, new) e) (λ d. let b : k < r = omega arith in rw (at k b) (root k b))

      every : (i : ℕ) → i < n → ev (K F field) (word F field vector) (suc t) (X F field i) ≡ (K F field).𝟎 → Off r (λ k. get_or q k 0) i → ⊥
      every i h e o =
          below_or r t
          (λ lt. found (C.all (omega arith) i h (zero-of-root i h e)))
          (λ full. more i h e o full)
        where
          found : (k : ℕ) × (k < r) × (get_or q k 0 ≡ i) → ⊥
          found (k, g, q) = o k g (sym q)

      errors : (y c : List ℕ) → Summed F n sums y → Near F n t y c → (i : ℕ) → i < n → ((k : ℕ) → k < r → i ≢ get_or q k 0) → get_or c i 0 ≡ get_or y i 0
      errors y c S N i h o =
          let g : i < length y = omega (arith, S.long) in
          el-injective F field _ _ (N.code.small i h) (S.small.small i g)
          (eq-of-add (K F field) _ _
          (no-error (K F field) (X F field) n P t (word F field y) (word F field c) (λ i. plus F (word F field c i) (word F field y i)) (code_is F field n (t + t) c N.code) (λ i h. sent (word F field y i) (word F field c i)) (omega (arith, wt-apart F field n c y, N.close)) (word F field vector) (key y S) nonzero r (λ k. get_or q k 0) Q root every i h o))
        where
          sent : (a b : El F) → a ≡ plus F b (plus F b a)
          sent a b = sym (add-self-left (K F field) b a)

      -- as they are handed on: the first r of them
      first-length : length (take r q) ≡ r
      first-length = let f : r ≤ length q = C.few in length-take-le r q f

      first-at : (k : ℕ) → k < length (take r q) → get_or (take r q) k 0 ≡ get_or q k 0
      first-at k h = get_or-take r q k 0 (omega (arith, first-length))

      pub located : Suspects F n sums (take r q)
      located =
          record {
            few = omega (arith, first-length, C.few);
            below = λ k h. rw (first-at k h) (C.below k (omega (arith, first-length)));
            rising = λ i k h g. rw (first-at k g, first-at i (omega arith)) (C.rising i k h (omega (arith, first-length)));
            errors = λ t' y c e S N i h o.
                let q' : t' ≡ t = omega arith in
                errors y c S (rw q' at N) i h (λ k g. let g' : k < length (take r q) = omega (arith, first-length) in rw (first-at k g') at (o k g'));
          }
