-- What a chain of row operations keeps: by induction on the chain. Each operation is undone by another, so all of it holds both ways.
use mathlib.Core.Path.{◌≡◌, refl, sym, ap, ◌∙◌, subst}
use mathlib.Core.Logic.{◌⊎◌, inl, inr}
use Prim.Native.Nat.{ℕ, zero, suc, ◌≤◌, ◌<◌}
use native.Mathlib.Omega.{arith}
use Rattle.theory.specs.Field.{Field}
use Rattle.theory.specs.Word.{put, IsZero, NonZero, sum}
use Rattle.theory.specs.Matrix.{swap, Row, Mat, add_row, scale_row, Agree, comb, Ker, LeftKer, Linear, Narrow, Rows, Inj, Steps, start, added, scaled, swapped, agreeing}
use Rattle.theory.proofs.Field.{ring, add-zero, mul-zero, mul_assoc, inv-ne-zero}
use Rattle.theory.proofs.Place.{put_same, put_other, at-or}
use Rattle.theory.proofs.Sum.{sum-ext, sum-add, sum-mul}
use Rattle.theory.proofs.Weight.{zero_or}
use Rattle.theory.proofs.RowOps.{comb-add, comb-scale, comb-swap, comb-agree, put-add-zero, put-mul-zero, swap-zero, add-row-undo, scale-row-undo, swap-undo}

module _ (K : Field) where
  open K use {F, 𝟎, 𝟏, add as ◌⊕◌, mul as ◌⊗◌}

  infixl 65 ◌⊕◌
  infixl 70 ◌⊗◌
  put-rows : (L : Row K → Type 0) (r : ℕ) (M : Mat K) (p : ℕ) (u : Row K) → L u → Rows K L r M → Rows K L r (put M p u)
  put-rows L r M p u h g i l =
      at-or i p (λ e. subst L (sym (put_same M p u i e)) h) (λ d. subst L (sym (put_other M p u i d)) (g i l))

  -- the rows u with u·v = 0
  dot-linear : (v : Row K) (m : ℕ) → Linear K (λ u. sum K (λ c. u c ⊗ v c) m ≡ 𝟎)
  dot-linear v m =
      record {
        plus = λ u w p q. sum-ext K _ _ m (λ c l. simp ring) ∙ sum-add K (λ c. u c ⊗ v c) (λ c. w c ⊗ v c) m ∙ rw (p, q) (add-zero K 𝟎);
        times = λ a u p. sum-ext K _ _ m (λ c l. mul_assoc K a (u c) (v c)) ∙ sum-mul K a (λ c. u c ⊗ v c) m ∙ rw p (mul-zero K a);
      }

  pub ker-agree : (r m : ℕ) (A B : Mat K) (v w : Row K) → Agree K r m A B → ((c : ℕ) → c < m → v c ≡ w c) → Ker K r m A v → Ker K r m B w
  ker-agree r m A B v w e f k i l = sum-ext K _ _ m (λ c h. rw (← (e i c l h), ← (f c h))) ∙ k i l

  -- a linear predicate that holds of each row and of zero holds of each combination
  pub comb-linear : (L : Row K → Type 0) → Linear K L → L (λ c. 𝟎) → (r : ℕ) (M : Mat K) (x : Row K) → Rows K L r M
      → L (comb K x M r)
  unfolding comb sum
  comb-linear L lin z zero M x g = z
  comb-linear L lin z (suc r) M x g =
      lin.plus (comb K x M r) (λ c. x r ⊗ M r c) (comb-linear L lin z r M x (λ i l. g i (omega arith))) (lin.times (x r) (M r) (g r (omega arith)))

  module _ (r m : ℕ) where
    pub steps_trans : {A B C : Mat K} → Steps K r m A B → Steps K r m B C → Steps K r m A C
    steps_trans s start = s
    steps_trans s (added i k a l h d t) = added i k a l h d (steps_trans s t)
    steps_trans s (scaled i a l d t) = scaled i a l d (steps_trans s t)
    steps_trans s (swapped i k l h d t) = swapped i k l h d (steps_trans s t)
    steps_trans s (agreeing e t) = agreeing e (steps_trans s t)

    pub steps-sym : {A M : Mat K} → Steps K r m A M → Steps K r m M A
    steps-sym start = start
    steps-sym (added {M} i k a l h d s) =
        steps_trans (agreeing (λ j c p q. add-row-undo K M i k a d j c) (added i k a l h d start)) (steps-sym s)
    steps-sym (scaled {M} i a l d s) =
        steps_trans (agreeing (λ j c p q. scale-row-undo K M i a d j c) (scaled i (K.inv a) l (inv-ne-zero K a d) start)) (steps-sym s)
    steps-sym (swapped {M} i k l h d s) =
        steps_trans (agreeing (λ j c p q. ap (λ (f : ℕ → F). f c) (swap-undo K M i k d j)) (swapped i k l h d start)) (steps-sym s)
    steps-sym (agreeing {M} {N} e s) = steps_trans (agreeing (λ j c p q. sym (e j c p q)) start) (steps-sym s)

    -- the matrix at the start may be exchanged for one that agrees with it, as `agreeing` does at the end
    pub steps-agree : {A B M : Mat K} → Agree K r m B A → Steps K r m A M → Steps K r m B M
    steps-agree e s = steps_trans (agreeing e start) s

    -- THEOREM (L-rows). A predicate that sums and multiples keep, true of all rows before, is true of all rows after.
    pub steps-rows : {A M : Mat K} (L : Row K → Type 0) → Linear K L → Narrow K m L → Rows K L r A → Steps K r m A M
        → Rows K L r M
    unfolding add_row scale_row swap
    steps-rows L lin nar g start = g
    steps-rows L lin nar g (added {M} i k a l h d s) =
        let t : Rows K L r M = steps-rows L lin nar g s in
        put-rows L r M i _ (lin.plus _ _ (t i l) (lin.times a _ (t k h))) t
    steps-rows L lin nar g (scaled {M} i a l d s) =
        let t : Rows K L r M = steps-rows L lin nar g s in
        put-rows L r M i _ (lin.times a _ (t i l)) t
    steps-rows L lin nar g (swapped {M} i k l h d s) =
        let t : Rows K L r M = steps-rows L lin nar g s in
        put-rows L r _ k _ (t i l) (put-rows L r M i _ (t k h) t)
    steps-rows L lin nar g (agreeing {M} {N} e s) =
        let t : Rows K L r M = steps-rows L lin nar g s in
        λ i l. nar (M i) (N i) (λ c k. e i c l k) (t i l)

    -- every combination of the rows after is one of the rows before, and that of zero only if it was
    pub steps-comb : {A M : Mat K} → Steps K r m A M → (x : Row K)
        → (y : Row K) × ((c : ℕ) → c < m → comb K y A r c ≡ comb K x M r c) × (IsZero K r y → IsZero K r x)
    steps-comb start x = (x, (λ c l. refl), (λ z. z))
    steps-comb (added {M} i k a l h d s) x =
        let (y, e, z) = steps-comb s (put x k (x k ⊕ a ⊗ x i)) in
        (y, (λ c q. e c q ∙ comb-add K M x r i k a l h d c), (λ o. put-add-zero K x r i k a l h d (z o)))
    steps-comb (scaled {M} i a l d s) x =
        let (y, e, z) = steps-comb s (put x i (a ⊗ x i)) in
        (y, (λ c q. e c q ∙ comb-scale K M x r i a c), (λ o. put-mul-zero K x r i a l d (z o)))
    steps-comb (swapped {M} i k l h d s) x =
        let (y, e, z) = steps-comb s (swap x i k) in
        (y, (λ c q. e c q ∙ comb-swap K M x r i k l h d c), (λ o. swap-zero K x r i k l h d (z o)))
    steps-comb (agreeing {M} {N} e s) x =
        let (y, f, z) = steps-comb s x in
        (y, (λ c q. f c q ∙ comb-agree K x r m M N e c q), z)

    -- THEOREM (L-inj). If x·M satisfies P only for x = 0 before, it does after.
    pub steps-inj : {A M : Mat K} (P : Row K → Type 0) → Narrow K m P → Inj K P r A → Steps K r m A M → Inj K P r M
    steps-inj {A} {M} P nar g s x h =
        let (y, e, z) = steps-comb s x in
        z (g y (nar (comb K x M r) (comb K y A r) (λ c l. sym (e c l)) h))

    -- THEOREM (right kernel). The vectors v with M·v = 0 are the same before and after.
    pub steps-kernel : {A M : Mat K} (v : Row K) → Steps K r m A M → Ker K r m A v → Ker K r m M v
    steps-kernel v s k =
        steps-rows (λ u. sum K (λ c. u c ⊗ v c) m ≡ 𝟎) (dot-linear v m) (λ u w e h. sum-ext K _ _ m (λ c l. rw (← (e c l))) ∙ h) k s

    pub kernel-steps : {A M : Mat K} (v : Row K) → Steps K r m A M → Ker K r m M v → Ker K r m A v
    kernel-steps v s = steps-kernel v (steps-sym s)

    -- THEOREM (left kernel). If y·M = 0 for some y that is not zero after, there is such a y before.
    pub steps-left : {A M : Mat K} (x : Row K) → Steps K r m A M → NonZero K r x → LeftKer K r m M x
        → (y : Row K) × NonZero K r y × LeftKer K r m A y
    steps-left {A} {M} x s n k = let (y, e, z) = steps-comb s x in go y e z (zero_or K y r)
      where
        go : (y : Row K) → ((c : ℕ) → c < m → comb K y A r c ≡ comb K x M r c) → (IsZero K r y → IsZero K r x)
            → IsZero K r y ⊎ NonZero K r y → (y : Row K) × NonZero K r y × LeftKer K r m A y
        go y e z (inl o) = let (p, l, d) = n in absurd (d (z o p l))
        go y e z (inr o) = (y, o, λ c l. e c l ∙ k c l)

  -- fewer columns
  pub steps-narrow : (r m w : ℕ) {A M : Mat K} → w ≤ m → Steps K r m A M → Steps K r w A M
  steps-narrow r m w le start = start
  steps-narrow r m w le (added i k a l h d s) = added i k a l h d (steps-narrow r m w le s)
  steps-narrow r m w le (scaled i a l d s) = scaled i a l d (steps-narrow r m w le s)
  steps-narrow r m w le (swapped i k l h d s) = swapped i k l h d (steps-narrow r m w le s)
  steps-narrow r m w le (agreeing e s) = agreeing (λ i c l k. e i c l (omega arith)) (steps-narrow r m w le s)
