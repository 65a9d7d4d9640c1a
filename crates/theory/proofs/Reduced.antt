-- What a matrix reduced by row operations says of the one before: its kernels, its inverse, and that its reduced form is the only one.
use mathlib.Core.Path.{◌≡◌, refl, sym, ap, ap₂, ◌∙◌}
use mathlib.Core.Logic.{◌≢◌}
use Prim.Native.Nat.{ℕ, ◌+◌, ◌≤◌, ◌<◌}
use native.Mathlib.Omega.{arith}
use native.Mathlib.Decide.{dec_lt}
use Rattle.theory.specs.Field.{Field}
use Rattle.theory.specs.Word.{IsZero, NonZero, unit, sum}
use Rattle.theory.specs.Matrix.{Row, Mat, Agree, comb, Ker, LeftKer, Linear, Narrow, Rows, UnitBelow, Stopped, stop_vector, Steps}
use Rattle.theory.proofs.Field.{ring, zero-mul, mul-zero, mul_assoc}
use Rattle.theory.proofs.Place.{pick_yes, pick_no, put_same, put_other, at-or, below_or}
use Rattle.theory.proofs.Sum.{sum-ext, sum-zero, sum-add, sum-mul, sum-two, sum-unit, sum-unit-right, unit-same, unit-other}
use Rattle.theory.proofs.Steps.{steps_trans, steps-sym, steps-narrow, steps-rows, steps-inj, steps-kernel, kernel-steps}

module _ (K : Field) where
  open K use {F, 𝟎, 𝟏, add as ◌⊕◌, mul as ◌⊗◌}

  infixl 65 ◌⊕◌
  infixl 70 ◌⊗◌
  pub unit-entry : (r j : ℕ) (M : Mat K) → UnitBelow K r j M → (i c : ℕ) → i < r → c < j → M i c ≡ unit K i c
  unit-entry r j M U i c l k =
      at-or c i (λ e. ap (λ x. M x c) (sym e) ∙ U.one_at c k ∙ sym (unit-same K i c e)) (λ d. U.zero_off i c l k (λ e. d (sym e)) ∙ sym (unit-other K i c d))

  -- unit in its first r columns: row i takes f to f i
  pub unit_row : (r : ℕ) (M : Mat K) → UnitBelow K r r M → (f : ℕ → F) (i : ℕ) → i < r → sum K (λ j. M i j ⊗ f j) r ≡ f i
  unit_row r M U f i l = sum-ext K _ _ r (λ j k. rw (unit-entry r r M U i j l k)) ∙ sum-unit K f r i l

  pub unit-comb : (r : ℕ) (M : Mat K) → UnitBelow K r r M → (x : Row K) (c : ℕ) → c < r → comb K x M r c ≡ x c
  unfolding comb
  unit-comb r M U x c l = sum-ext K _ _ r (λ i k. rw (unit-entry r r M U i c k l)) ∙ sum-unit-right K x r c l

  -- the entries of u at p 0, .., p (w - 1) are the combination of B's rows with the entries at q 0, .., q (r - 1) as factors
  abbrev Tied : ℕ → ℕ → (ℕ → ℕ) → (ℕ → ℕ) → Mat K → Row K → Type 0
  Tied w r p q B u = (c : ℕ) → c < w → u (p c) ≡ sum K (λ j. u (q j) ⊗ B j c) r

  tied-linear : (w r : ℕ) (p q : ℕ → ℕ) (B : Mat K) → Linear K (Tied w r p q B)
  tied-linear w r p q B =
      record {
        plus = λ u v a b c l. ap₂ ◌⊕◌ (a c l) (b c l) ∙ sym (sum-add K (λ j. u (q j) ⊗ B j c) (λ j. v (q j) ⊗ B j c) r) ∙ sum-ext K _ _ r (λ j k. simp ring);
        times = λ a u h c l. ap (λ x. a ⊗ x) (h c l) ∙ sym (sum-mul K a (λ j. u (q j) ⊗ B j c) r) ∙ sum-ext K _ _ r (λ j k. sym (mul_assoc K a _ _));
      }

  tied-narrow : (m w r : ℕ) (p q : ℕ → ℕ) (B : Mat K) → ((c : ℕ) → c < w → p c < m) → ((j : ℕ) → j < r → q j < m)
      → Narrow K m (Tied w r p q B)
  tied-narrow m w r p q B hp hq u v e h c l =
      sym (e (p c) (hp c l)) ∙ h c l ∙ sum-ext K _ _ r (λ j k. rw (e (q j) (hq j k)))

  tied-steps : (m w r : ℕ) (p q : ℕ → ℕ) (B : Mat K) {A M : Mat K} → ((c : ℕ) → c < w → p c < m) → ((j : ℕ) → j < r → q j < m)
      → Steps K r m A M → Rows K (Tied w r p q B) r A → Rows K (Tied w r p q B) r M
  tied-steps m w r p q B hp hq s g =
      steps-rows K r m (Tied w r p q B) (tied-linear w r p q B) (tied-narrow m w r p q B hp hq) g s

  -- THEOREM (reduced form). Two matrices reached from one matrix by row operations, both the identity on the first r columns, are equal.
  -- A row of M is the combination of M's rows with the factors in its own first r columns; so is each row of N, by L-rows.
  pub reduced-unique : (r m : ℕ) {A M N : Mat K} → r ≤ m → Steps K r m A M → Steps K r m A N → UnitBelow K r r M
      → UnitBelow K r r N → Agree K r m M N
  reduced-unique r m {A} {M} {N} le s t U W i c l k = sym (row i l c k ∙ unit_row r N W (λ j. M j c) i l)
    where
      row : Rows K (Tied m r (λ c. c) (λ j. j) M) r N
      row =
          tied-steps m m r (λ c. c) (λ j. j) M (λ c h. h) (λ j h. omega arith) (steps_trans K r m (steps-sym K r m s) t)
          (λ i l c h. sym (unit_row r M U (λ j. M j c) i l))

  -- THEOREM (inverse). If row operations take J = [A, identity] to M = [identity, B], then B·A and A·B are the identity.
  module _ (r : ℕ) (A J M : Mat K) (left : Agree K r r J A) (right : (i c : ℕ) → i < r → c < r → J i (r + c) ≡ unit K i c)
      (s : Steps K r (r + r) J M) (U : UnitBelow K r r M) where
    pub inverse_left : (i c : ℕ) → i < r → c < r → sum K (λ j. M i (r + j) ⊗ A j c) r ≡ unit K i c
    inverse_left i c l k = sym (after i l c k) ∙ unit-entry r r M U i c l k
      where
        before : Rows K (Tied r r (λ c. c) (λ j. r + j) A) r J
        before i l c k =
            left i c l k ∙ sym (sum-ext K _ _ r (λ j h. rw (right i j l h)) ∙ sum-unit K (λ j. A j c) r i l)

        after : Rows K (Tied r r (λ c. c) (λ j. r + j) A) r M
        after = tied-steps (r + r) r r (λ c. c) (λ j. r + j) A (λ c h. omega arith) (λ j h. omega arith) s before

    pub inverse-right : (i c : ℕ) → i < r → c < r → sum K (λ j. A i j ⊗ M j (r + c)) r ≡ unit K i c
    inverse-right i c l k = sum-ext K _ _ r (λ j h. rw (← (left i j l h))) ∙ sym (before i l c k) ∙ right i c l k
      where
        B : Mat K
        B j c = M j (r + c)

        before : Rows K (Tied r r (λ c. r + c) (λ j. j) B) r J
        before =
            tied-steps (r + r) r r (λ c. r + c) (λ j. j) B (λ c h. omega arith) (λ j h. omega arith) (steps-sym K r (r + r) s)
            (λ i l c k. sym (unit_row r M U (λ j. B j c) i l))

  -- THEOREM (regular). If row operations reach the identity on the first r columns, the square matrix of these columns has no left
  -- and no right kernel but zero.
  module _ (r m : ℕ) {A M : Mat K} (le : r ≤ m) (s : Steps K r m A M) (U : UnitBelow K r r M) where
    pub regular-left : (y : Row K) → LeftKer K r r A y → IsZero K r y
    regular-left =
        steps-inj K r r (IsZero K r) (λ u w e z i l. sym (e i l) ∙ z i l) (λ x z i l. sym (unit-comb r M U x i l) ∙ z i l) (steps-sym K r r (steps-narrow K r m r le s))

    pub regular-right : (v : Row K) → Ker K r r A v → IsZero K r v
    regular-right v k i l =
        sym (unit_row r M U v i l) ∙ steps-kernel K r r v (steps-narrow K r m r le s) k i l

  -- with all rows used, there is nothing left to find
  pub full-stopped : (r : ℕ) (M : Mat K) → UnitBelow K r r M → Stopped K r r M
  full-stopped r M U = record { done = U; none = λ i l k. absurd (omega arith) }

  module _ (j : ℕ) (M : Mat K) where
    pub stop-below : (c : ℕ) → c < j → stop_vector K j M c ≡ M c j
    unfolding stop_vector
    stop-below c l = put_other _ j _ c (omega arith) ∙ pick_yes (dec_lt c j) _ _ l

    pub stop-at : stop_vector K j M j ≡ 𝟏
    unfolding stop_vector
    stop-at = put_same _ j _ j refl

    pub stop-above : (c : ℕ) → j < c → stop_vector K j M c ≡ 𝟎
    unfolding stop_vector
    stop-above c l = put_other _ j _ c (omega arith) ∙ pick_no (dec_lt c j) _ _ (omega arith)

    pub stop-ker : (r m : ℕ) → j < m → Stopped K r j M → Ker K r m M (stop_vector K j M)
    stop-ker r m lj S i l = below_or i j upper lower
      where
        -- a term off row i's own column and off column j
        none : (c : ℕ) → c < m → i ≢ c → c ≢ j → M i c ⊗ stop_vector K j M c ≡ 𝟎
        none c k d e =
            below_or c j (λ h. rw (S.done.zero_off i c l h d) (zero-mul K _)) (λ h. rw (stop-above c (omega arith)) (mul-zero K _))

        upper : i < j → sum K (λ c. M i c ⊗ stop_vector K j M c) m ≡ 𝟎
        upper h =
            sum-two K _ m i j (omega arith) lj (omega arith) (λ c k d e. none c k (λ q. d (sym q)) e)
            ∙ rw (S.done.one_at i h, stop-below i h, stop-at) (simp ring)

        lower : j ≤ i → sum K (λ c. M i c ⊗ stop_vector K j M c) m ≡ 𝟎
        lower h =
            sum-zero K _ m
            (λ c k. at-or c j (λ e. rw (e, S.none i l h) (zero-mul K _))
            (λ e. at-or i c (λ f. rw (stop-above c (omega arith)) (mul-zero K _)) (λ f. none c k f e)))

  -- THEOREM (L-stop). Stopped at column j, the vector M[0][j], .., M[j-1][j], 1, 0, .. is in the right kernel of the matrix before; it is
  -- not zero, for it is 1 at j.
  pub stopped-kernel : (r m j : ℕ) {A M : Mat K} → j < m → Steps K r m A M → Stopped K r j M → Ker K r m A (stop_vector K j M)
  stopped-kernel r m j {A} {M} l s S = kernel-steps K r m (stop_vector K j M) s (stop-ker j M r m l S)

  pub stop-nonzero : (m j : ℕ) (M : Mat K) → j < m → NonZero K m (stop_vector K j M)
  stop-nonzero m j M l = (j, l, λ e. K.one_ne_zero (sym (stop-at j M) ∙ e))
