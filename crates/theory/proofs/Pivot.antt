-- One column of an elimination, step by step: bring the pivot's row up, divide it, clear the column row by row; the unit columns grow by one.
use mathlib.Core.Path.{◌≡◌, refl, sym, ◌∙◌}
use mathlib.Core.Logic.{◌≢◌}
use Prim.Native.Nat.{ℕ, suc, ◌≤◌, ◌<◌}
use native.Mathlib.Omega.{arith}
use Rattle.theory.specs.Field.{Field}
use Rattle.theory.specs.Matrix.{swap, Mat, add_row, scale_row, Agree, UnitBelow}
use Rattle.theory.proofs.Field.{ring, mul-zero, zero-mul, mul_comm, add-zero}
use Rattle.theory.proofs.Place.{at-or, swap-first, swap-second, swap-other}
use Rattle.theory.proofs.RowOps.{add-row-at, add-row-off, scale-row-at, scale-row-off}

-- the rows of N before i are those of M, cleared in column j by row j, which stays; the others are M's
pub record Clearing (K : Field) (r m j i : ℕ) (M N : Mat K) : Type 0 where
  pub pivot : (c : ℕ) → c < m → N j c ≡ M j c
  pub done : (l c : ℕ) → l < i → l < r → l ≢ j → c < m → N l c ≡ K.add (M l c) (K.mul (M l j) (M j c))
  pub rest : (l c : ℕ) → i ≤ l → l < r → c < m → N l c ≡ M l c

module _ (K : Field) where
  open K use {F, 𝟎, 𝟏, add as ◌⊕◌, mul as ◌⊗◌}

  infixl 65 ◌⊕◌
  infixl 70 ◌⊗◌
  pub unit-none : (r : ℕ) (M : Mat K) → UnitBelow K r 0 M
  unit-none r M = record { one_at = λ c k. absurd (omega arith); zero_off = λ i c h k. absurd (omega arith) }

  pub unit-agree : (r m j : ℕ) (M N : Mat K) → j ≤ r → j ≤ m → Agree K r m M N → UnitBelow K r j M → UnitBelow K r j N
  unit-agree r m j M N jr jm e U =
      record {
        one_at = λ c k. sym (e c c (omega arith) (omega arith)) ∙ U.one_at c k;
        zero_off = λ i c l k d. sym (e i c l (omega arith)) ∙ U.zero_off i c l k d;
      }

  -- the pivot's row p is brought to row j
  pub swap-unit : (r j p : ℕ) (M : Mat K) → j ≤ p → p < r → p ≢ j → UnitBelow K r j M → UnitBelow K r j (swap M p j)
  swap-unit r j p M jp pr d U = record { one_at = on; zero_off = off }
    where
      on : (c : ℕ) → c < j → swap M p j c c ≡ 𝟏
      on c k = rw (swap-other M p j c (omega arith) (omega arith)) (U.one_at c k)

      off : (i c : ℕ) → i < r → c < j → i ≢ c → swap M p j i c ≡ 𝟎
      off i c l k n =
          at-or i j (λ e. rw (e, swap-second M p j) (U.zero_off p c pr k (omega arith)))
          (λ e. at-or i p (λ f. rw (f, swap-first M p j d) (U.zero_off j c (omega arith) k (omega arith))) (λ f. rw (swap-other M p j i f e) (U.zero_off i c l k n)))

  -- row j is divided by its pivot
  pub scale-unit : (r j : ℕ) (a : F) (M : Mat K) → j < r → UnitBelow K r j M → UnitBelow K r j (scale_row K M j a)
  scale-unit r j a M jr U =
      record {
        one_at = λ c k. scale-row-off K M j a c c (omega arith) ∙ U.one_at c k;
        zero_off = λ i c l k n. at-or i j (λ e. scale-row-at K M j a i c e ∙ rw (U.zero_off j c jr k (omega arith)) (mul-zero K a)) (λ e. scale-row-off K M j a i c e ∙ U.zero_off i c l k n);
      }

  pub scale_one : (j : ℕ) (M : Mat K) → M j j ≢ 𝟎 → scale_row K M j (K.inv (M j j)) j j ≡ 𝟏
  scale_one j M d = scale-row-at K M j (K.inv (M j j)) j j refl ∙ mul_comm K _ _ ∙ K.mul_inv (M j j) d

  -- column j is cleared, row by row
  module _ (r m j : ℕ) (jr : j < r) (jm : j < m) where
    pub clear_none : (M : Mat K) → Clearing K r m j 0 M M
    clear_none M = record { pivot = λ c l. refl; done = λ l c k. absurd (omega arith); rest = λ l c k h q. refl }

    -- the pivot's own row is passed over, and so is a row whose entry is zero
    pub clear-own : (i : ℕ) (M N : Mat K) → i ≡ j → Clearing K r m j i M N → Clearing K r m j (suc i) M N
    clear-own i M N e C =
        record {
          pivot = C.pivot;
          done = λ l c k h d q. C.done l c (omega arith) h d q;
          rest = λ l c k h q. C.rest l c (omega arith) h q;
        }

    pub clear_zero : (i : ℕ) (M N : Mat K) → i < r → N i j ≡ 𝟎 → Clearing K r m j i M N → Clearing K r m j (suc i) M N
    clear_zero i M N ir z C =
        record { pivot = C.pivot; done = cleared; rest = λ l c k h q. C.rest l c (omega arith) h q }
      where
        own : M i j ≡ 𝟎
        own = sym (C.rest i j (omega arith) ir jm) ∙ z

        cleared : (l c : ℕ) → l < suc i → l < r → l ≢ j → c < m → N l c ≡ M l c ⊕ M l j ⊗ M j c
        cleared l c k h d q =
            at-or l i
            (λ e. C.rest l c (omega arith) h q ∙ sym (rw (e, own, zero-mul) (add-zero K (M i c))))
            (λ e. C.done l c (omega arith) h d q)

    pub clear-row : (i : ℕ) (M N N' : Mat K) → i < r → i ≢ j → Clearing K r m j i M N → Agree K r m (add_row K N i j (N i j)) N'
        → Clearing K r m j (suc i) M N'
    clear-row i M N N' ir d C e = record { pivot = top; done = cleared; rest = others }
      where
        kept : (l c : ℕ) → l ≢ i → l < r → c < m → N' l c ≡ N l c
        kept l c n h q = sym (e l c h q) ∙ add-row-off K N i j (N i j) l c n

        top : (c : ℕ) → c < m → N' j c ≡ M j c
        top c q = kept j c (λ o. d (sym o)) jr q ∙ C.pivot c q

        own : (c : ℕ) → c < m → N' i c ≡ M i c ⊕ M i j ⊗ M j c
        own c q =
            sym (e i c ir q) ∙ add-row-at K N i j (N i j) i c refl
            ∙ rw (C.rest i c (omega arith) ir q, C.rest i j (omega arith) ir jm, C.pivot c q)

        cleared : (l c : ℕ) → l < suc i → l < r → l ≢ j → c < m → N' l c ≡ M l c ⊕ M l j ⊗ M j c
        cleared l c k h n q =
            at-or l i (λ o. rw o (own c q)) (λ o. kept l c o h q ∙ C.done l c (omega arith) h n q)

        others : (l c : ℕ) → suc i ≤ l → l < r → c < m → N' l c ≡ M l c
        others l c k h q = kept l c (omega arith) h q ∙ C.rest l c (omega arith) h q

    pub clear-unit : (M N : Mat K) → M j j ≡ 𝟏 → UnitBelow K r j M → Clearing K r m j r M N → UnitBelow K r (suc j) N
    clear-unit M N one U C = record { one_at = on; zero_off = off }
      where
        on : (c : ℕ) → c < suc j → N c c ≡ 𝟏
        on c l =
            at-or c j (λ e. rw e (C.pivot j jm ∙ one))
            (λ d. C.done c c (omega arith) (omega arith) d (omega arith) ∙ rw (U.one_at c (omega arith), U.zero_off j c jr (omega arith) (omega arith)) (simp ring))

        off : (i c : ℕ) → i < r → c < suc j → i ≢ c → N i c ≡ 𝟎
        off i c l k d =
            at-or i j
            (λ e. rw e (C.pivot c (omega arith) ∙ U.zero_off j c jr (omega arith) (omega arith)))
            (λ e. C.done i c l l e (omega arith) ∙ at-or c j (λ f. rw (f, one) (simp ring)) (λ f. rw (U.zero_off i c l (omega arith) d, U.zero_off j c jr (omega arith) (omega arith)) (simp ring)))
