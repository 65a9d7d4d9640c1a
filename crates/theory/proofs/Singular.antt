-- Elimination carried out in the abstract: every matrix can be reduced; so a matrix with fewer rows than columns has a kernel vector
-- that is not zero, and a square matrix with a right kernel has a left one.
use mathlib.Core.Path.{◌≡◌, refl, sym, ap, ◌∙◌}
use mathlib.Core.Logic.{◌≢◌, ◌⊎◌, inl, inr}
use Prim.Native.Nat.{ℕ, zero, suc, ◌+◌, ◌-◌, ◌≤◌, ◌<◌}
use native.Mathlib.Omega.{arith}
use native.Mathlib.Decide.{dec_lt}
use Rattle.theory.specs.Field.{Field}
use Rattle.theory.specs.Word.{pick, NonZero, sum}
use Rattle.theory.specs.Matrix.{swap, Row, Mat, add_row, scale_row, comb, Ker, LeftKer, UnitBelow, Stopped, stop_vector, Steps, start, added, scaled, swapped}
use Rattle.theory.proofs.Field.{zero-mul, mul-zero, mul_comm, mul_assoc, mul-cancel, inv-ne-zero}
use Rattle.theory.proofs.Place.{pick_yes, pick_no, at-or, below_or, swap-second}
use Rattle.theory.proofs.Sum.{sum-ext, sum-zero, sum-mul, sum-mul-right, sum-swap, sum-only}
use Rattle.theory.proofs.Steps.{steps-narrow}
use Rattle.theory.proofs.Reduced.{stopped-kernel, stop-nonzero}
use Rattle.theory.proofs.Pivot.{Clearing, unit-none, swap-unit, scale-unit, scale_one, clear_none, clear-own, clear-row, clear-unit}

-- what an elimination of A that may do `limit` columns ends with: M, with j columns done
pub record Ended (K : Field) (r m limit : ℕ) (A : Mat K) : Type 0 where
  pub M : Mat K
  pub j : ℕ
  pub few : j ≤ limit
  pub steps : Steps K r m A M
  pub done : UnitBelow K r j M
  pub none : j < limit → (i : ℕ) → i < r → j ≤ i → M i j ≡ K.𝟎

module _ (K : Field) where
  open K use {F, 𝟎, 𝟏, add as ◌⊕◌, mul as ◌⊗◌}

  infixl 65 ◌⊕◌
  infixl 70 ◌⊗◌
  -- a row from j on with an entry in column j, or none
  find-pivot : (r j : ℕ) (M : Mat K) → ((p : ℕ) × (j ≤ p) × (p < r) × (M p j ≢ 𝟎)) ⊎ ((i : ℕ) → i < r → j ≤ i → M i j ≡ 𝟎)
  find-pivot zero j M = inr (λ i l k. absurd (omega arith))
  find-pivot (suc r) j M = go (find-pivot r j M) (dec_lt r j) (K.dec (M r j))
    where
      go : ((p : ℕ) × (j ≤ p) × (p < r) × (M p j ≢ 𝟎)) ⊎ ((i : ℕ) → i < r → j ≤ i → M i j ≡ 𝟎) → Dec (r < j) → Dec (M r j ≡ 𝟎)
          → ((p : ℕ) × (j ≤ p) × (p < suc r) × (M p j ≢ 𝟎)) ⊎ ((i : ℕ) → i < suc r → j ≤ i → M i j ≡ 𝟎)
      go (inl (p, a, b, c)) d e = inl (p, a, omega arith, c)
      go (inr z) (yes d) e = inr (λ i l k. absurd (omega arith))
      go (inr z) (no d) (yes e) = inr (λ i l k. at-or i r (λ q. rw q e) (λ q. z i (omega arith) k))
      go (inr z) (no d) (no e) = inl (r, omega arith, omega arith, e)

  module _ (r m : ℕ) (A : Mat K) where
    -- a matrix reached from A whose first j columns are unit
    abbrev Stage : ℕ → Type 0
    Stage j = (M : Mat K) × Steps K r m A M × UnitBelow K r j M

    module _ (j : ℕ) (jr : j < r) (jm : j < m) where
      clear : (M : Mat K) → Steps K r m A M → (i : ℕ) → i ≤ r → (N : Mat K) × Steps K r m A N × Clearing K r m j i M N
      clear M s zero l = (M, s, clear_none K r m j jr jm M)
      clear M s (suc i) l = go (clear M s i (omega arith))
        where
          go : (N : Mat K) × Steps K r m A N × Clearing K r m j i M N
              → (N : Mat K) × Steps K r m A N × Clearing K r m j (suc i) M N
          go (N, t, C) =
              at-or i j (λ e. (N, t, clear-own K r m j jr jm i M N e C))
              (λ d. (add_row K N i j (N i j), added i j (N i j) (omega arith) jr d t, clear-row K r m j jr jm i M N _ (omega arith) d C (λ a c h q. refl)))

      -- the column with its pivot in place
      column : (M : Mat K) → Steps K r m A M → UnitBelow K r j M → M j j ≢ 𝟎 → Stage (suc j)
      column M s U d = go (clear B (scaled j a jr (inv-ne-zero K (M j j) d) s) r (omega arith))
        where
          a : F
          a = K.inv (M j j)

          B : Mat K
          B = scale_row K M j a

          go : (N : Mat K) × Steps K r m A N × Clearing K r m j r B N → Stage (suc j)
          go (N, t, C) = (N, t, clear-unit K r m j jr jm B N (scale_one K j M d) (scale-unit K r j a M jr U) C)

      next : (M : Mat K) → Steps K r m A M → UnitBelow K r j M → (p : ℕ) → j ≤ p → p < r → M p j ≢ 𝟎 → Stage (suc j)
      next M s U p jp pr d =
          at-or p j (λ e. column M s U (λ z. d (rw e z)))
          (λ n. column (swap M p j) (swapped p j pr jr n s) (swap-unit K r j p M jp pr n U) (λ z. d (ap (λ (f : ℕ → F). f j) (sym (swap-second M p j)) ∙ z)))

    reduce-from : (limit : ℕ) → limit ≤ r → limit ≤ m → (k j : ℕ) → j + k ≡ limit → (M : Mat K) → Steps K r m A M
        → UnitBelow K r j M → Ended K r m limit A
    reduce-from limit lr lm zero j e M s U =
        record { M = M; j = j; few = omega arith; steps = s; done = U; none = λ l. absurd (omega arith) }
    reduce-from limit lr lm (suc k) j e M s U = go (find-pivot r j M) (reduce-from limit lr lm k (suc j) (omega arith))
      where
        go : ((p : ℕ) × (j ≤ p) × (p < r) × (M p j ≢ 𝟎)) ⊎ ((i : ℕ) → i < r → j ≤ i → M i j ≡ 𝟎)
            → ((N : Mat K) → Steps K r m A N → UnitBelow K r (suc j) N → Ended K r m limit A) → Ended K r m limit A
        go (inr z) ih = record { M = M; j = j; few = omega arith; steps = s; done = U; none = λ l. z }
        go (inl (p, jp, pr, d)) ih = let (N, t, W) = next j (omega arith) (omega arith) M s U p jp pr d in ih N t W

    -- THEOREM (elimination). Row operations take any matrix to one that is unit in its first j columns, where j is the limit or
    -- column j has no pivot.
    pub reduce : (limit : ℕ) → limit ≤ r → limit ≤ m → Ended K r m limit A
    reduce limit lr lm = reduce-from limit lr lm limit 0 (omega arith) A start (unit-none K r A)

  -- THEOREM (more unknowns than equations). With fewer rows than columns there is a kernel vector that is not zero.
  pub exists-kernel : (r m : ℕ) (A : Mat K) → r < m → (v : Row K) × NonZero K m v × Ker K r m A v
  exists-kernel r m A l =
      let E = reduce r m A r (omega arith) (omega arith) in
      let j : ℕ = E.j in
      let jm : j < m = omega (arith, E.few) in
      (stop_vector K j E.M, stop-nonzero K m j E.M jm, stopped-kernel K r m j jm E.steps (record { done = E.done; none = λ i k h. E.none (omega arith) i k h }))

  -- x·(A·w) = (x·A)·w
  comb-dot : (r m : ℕ) (A : Mat K) (x w : Row K) → Ker K r m A w → sum K (λ c. comb K x A r c ⊗ w c) m ≡ 𝟎
  unfolding comb
  comb-dot r m A x w k =
      sum-ext K _ _ m (λ c l. sym (sum-mul-right K (w c) (λ i. x i ⊗ A i c) r)) ∙ sum-swap K (λ c i. x i ⊗ A i c ⊗ w c) m r
      ∙ sum-zero K _ r
      (λ i l. sum-ext K _ _ m (λ c h. mul_assoc K (x i) (A i c) (w c)) ∙ sum-mul K (x i) (λ c. A i c ⊗ w c) m ∙ rw (k i l) (mul-zero K (x i)))

  -- the columns but p, in order
  skip : ℕ → ℕ → ℕ
  skip p a = pick (dec_lt a p) a (suc a)

  skip_below : (p a : ℕ) → a < p → skip p a ≡ a
  unfolding skip
  skip_below p a l = pick_yes (dec_lt a p) _ _ l

  skip-above : (p a : ℕ) → p ≤ a → skip p a ≡ suc a
  unfolding skip
  skip-above p a l = pick_no (dec_lt a p) _ _ (omega arith)

  -- THEOREM (singular). A square matrix with a right kernel vector that is not zero has a left one that is not zero.
  -- With w p not zero, x·A is made zero at all columns but p, which are fewer than the rows; and (x·A)·w = 0 says the rest.
  pub left-of-right : (q : ℕ) (A : Mat K) (w : Row K) → NonZero K (suc q) w → Ker K (suc q) (suc q) A w
      → (y : Row K) × NonZero K (suc q) y × LeftKer K (suc q) (suc q) A y
  unfolding comb
  left-of-right q A w (p, pl, d) k = go (exists-kernel q (suc q) (λ a i. A i (skip p a)) (omega arith))
    where
      go : (x : Row K) × NonZero K (suc q) x × Ker K q (suc q) (λ a i. A i (skip p a)) x
          → (y : Row K) × NonZero K (suc q) y × LeftKer K (suc q) (suc q) A y
      go (x, n, h) = (x, n, λ c l. at-or c p (λ e. rw e last) (λ e. others c l e))
        where
          at : (a c : ℕ) → a < q → skip p a ≡ c → comb K x A (suc q) c ≡ 𝟎
          at a c l e = sum-ext K _ _ (suc q) (λ i o. rw (← e) (mul_comm K _ _)) ∙ h a l

          others : (c : ℕ) → c < suc q → c ≢ p → comb K x A (suc q) c ≡ 𝟎
          others c l e =
              below_or c p (λ b. at c c (omega arith) (skip_below p c b))
              (λ b. at (c - 1) c (omega arith) (let o : suc (c - 1) ≡ c = omega arith in skip-above p (c - 1) (omega arith) ∙ o))

          last : comb K x A (suc q) p ≡ 𝟎
          last =
              mul-cancel K (w p) _ d
              (mul_comm K _ _ ∙ sym (sum-only K (λ c. comb K x A (suc q) c ⊗ w c) (suc q) p pl (λ c l e. rw (others c l e) (zero-mul K _))) ∙ comb-dot (suc q) (suc q) A x w k)

  -- THEOREM (stopped is singular). If elimination stops before the last column of a square matrix, its left kernel is not zero.
  pub stopped-left : (r m j : ℕ) {A M : Mat K} → j < r → r ≤ m → Steps K r m A M → Stopped K r j M
      → (y : Row K) × NonZero K r y × LeftKer K r r A y
  stopped-left zero m j l le s S = absurd (omega arith)
  stopped-left (suc q) m j {A} {M} l le s S =
      left-of-right q A (stop_vector K j M) (stop-nonzero K (suc q) j M l) (stopped-kernel K (suc q) (suc q) j l (steps-narrow K (suc q) m (suc q) le s) S)
