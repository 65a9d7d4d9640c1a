-- One row operation: its entries, its undoing, and the combination x·M as a combination of the rows before it.
use mathlib.Core.Path.{◌≡◌, refl, sym, ap, ◌∙◌}
use mathlib.Core.Logic.{◌≢◌}
use Prim.Native.Nat.{ℕ, ◌<◌}
use Rattle.theory.specs.Field.{Field}
use Rattle.theory.specs.Word.{put, IsZero, sum}
use Rattle.theory.specs.Matrix.{swap, Row, Mat, add_row, scale_row, Agree, comb}
use Rattle.theory.proofs.Field.{ring, add-self, mul-zero, one-mul, mul_comm, mul_assoc, mul-cancel, eq-of-add}
use Rattle.theory.proofs.Place.{put_same, put_other, at-or, swap-first, swap-second, swap-other}
use Rattle.theory.proofs.Sum.{sum-ext, sum-add, sum-change, sum-two}

module _ (K : Field) (M : Mat K) where
  open K use {F, 𝟎, 𝟏, add as ◌⊕◌, mul as ◌⊗◌}

  infixl 65 ◌⊕◌
  infixl 70 ◌⊗◌
  -- entries
  pub add-row-at : (i k : ℕ) (a : F) (l c : ℕ) → l ≡ i → add_row K M i k a l c ≡ M i c ⊕ a ⊗ M k c
  unfolding add_row
  add-row-at i k a l c e = ap (λ (f : ℕ → F). f c) (put_same M i (λ c. M i c ⊕ a ⊗ M k c) l e)

  pub add-row-off : (i k : ℕ) (a : F) (l c : ℕ) → l ≢ i → add_row K M i k a l c ≡ M l c
  unfolding add_row
  add-row-off i k a l c d = ap (λ (f : ℕ → F). f c) (put_other M i (λ c. M i c ⊕ a ⊗ M k c) l d)

  pub scale-row-at : (i : ℕ) (a : F) (l c : ℕ) → l ≡ i → scale_row K M i a l c ≡ a ⊗ M i c
  unfolding scale_row
  scale-row-at i a l c e = ap (λ (f : ℕ → F). f c) (put_same M i (λ c. a ⊗ M i c) l e)

  pub scale-row-off : (i : ℕ) (a : F) (l c : ℕ) → l ≢ i → scale_row K M i a l c ≡ M l c
  unfolding scale_row
  scale-row-off i a l c d = ap (λ (f : ℕ → F). f c) (put_other M i (λ c. a ⊗ M i c) l d)

  -- x·(the matrix after the operation) is y·M, where y is zero only if x is
  pub comb-add : (x : Row K) (r i k : ℕ) (a : F) → i < r → k < r → i ≢ k → (c : ℕ)
      → comb K (put x k (x k ⊕ a ⊗ x i)) M r c ≡ comb K x (add_row K M i k a) r c
  unfolding comb
  comb-add x r i k a l m d c = right ∙ sym left
    where
      y : F
      y = x k ⊕ a ⊗ x i

      left : sum K (λ j. x j ⊗ add_row K M i k a j c) r ≡ sum K (λ j. x j ⊗ M j c) r ⊕ a ⊗ x i ⊗ M k c
      left =
          sum-change K _ (λ j. x j ⊗ M j c) r i l (λ j h e. rw (add-row-off i k a j c e))
          ∙ rw (add-row-at i k a i c refl) (simp ring)

      right : sum K (λ j. put x k y j ⊗ M j c) r ≡ sum K (λ j. x j ⊗ M j c) r ⊕ a ⊗ x i ⊗ M k c
      right =
          sum-change K _ (λ j. x j ⊗ M j c) r k m (λ j h e. rw (put_other x k y j e)) ∙ rw (put_same x k y k refl) (simp ring)

  pub comb-scale : (x : Row K) (r i : ℕ) (a : F) (c : ℕ) → comb K (put x i (a ⊗ x i)) M r c ≡ comb K x (scale_row K M i a) r c
  unfolding comb
  comb-scale x r i a c =
      sum-ext K _ _ r
      (λ j l. at-or j i (λ e. rw (e, scale-row-at i a i c refl, put_same x i (a ⊗ x i) i refl) (simp ring))
      (λ e. rw (scale-row-off i a j c e, put_other x i (a ⊗ x i) j e)))

  pub comb-swap : (x : Row K) (r i k : ℕ) → i < r → k < r → i ≢ k → (c : ℕ)
      → comb K (swap x i k) M r c ≡ comb K x (swap M i k) r c
  unfolding comb
  comb-swap x r i k l m d c =
      eq-of-add K _ _
      (sym (sum-add K (λ j. swap x i k j ⊗ M j c) (λ j. x j ⊗ swap M i k j c) r) ∙ sum-two K _ r i k l m d (λ j h e f. rw (swap-other M i k j e f, swap-other x i k j e f) (add-self K _)) ∙ rw (swap-first M i k d, swap-first x i k d, swap-second M i k, swap-second x i k) (simp ring))

module _ (K : Field) where
  open K use {F, 𝟎, 𝟏, add as ◌⊕◌, mul as ◌⊗◌}

  infixl 65 ◌⊕◌
  infixl 70 ◌⊗◌
  pub comb-agree : (x : Row K) (r m : ℕ) (M N : Mat K) → Agree K r m M N → (c : ℕ) → c < m → comb K x M r c ≡ comb K x N r c
  unfolding comb
  comb-agree x r m M N e c l = sum-ext K _ _ r (λ i k. rw (e i c k l))

  pub put-add-zero : (x : Row K) (r i k : ℕ) (a : F) → i < r → k < r → i ≢ k → IsZero K r (put x k (x k ⊕ a ⊗ x i)) → IsZero K r x
  put-add-zero x r i k a l m d all j q = at-or j k (λ e. rw e last) (λ e. rest j q e)
    where
      y : F
      y = x k ⊕ a ⊗ x i

      rest : (j : ℕ) → j < r → j ≢ k → x j ≡ 𝟎
      rest j q e = sym (put_other x k y j e) ∙ all j q

      last : x k ≡ 𝟎
      last = eq-of-add K (x k) (a ⊗ x i) (sym (put_same x k y k refl) ∙ all k m) ∙ rw (rest i l d) (mul-zero K a)

  pub put-mul-zero : (x : Row K) (r i : ℕ) (a : F) → i < r → a ≢ 𝟎 → IsZero K r (put x i (a ⊗ x i)) → IsZero K r x
  put-mul-zero x r i a l d all j q =
      at-or j i (λ e. rw e (mul-cancel K a (x i) d (sym (put_same x i (a ⊗ x i) i refl) ∙ all i l))) (λ e. sym (put_other x i (a ⊗ x i) j e) ∙ all j q)

  pub swap-zero : (x : Row K) (r i k : ℕ) → i < r → k < r → i ≢ k → IsZero K r (swap x i k) → IsZero K r x
  swap-zero x r i k l m d all j q =
      at-or j i (λ e. rw e (sym (swap-second x i k) ∙ all k m))
      (λ e. at-or j k (λ f. rw f (sym (swap-first x i k d) ∙ all i l)) (λ f. sym (swap-other x i k j e f) ∙ all j q))

  -- each operation is undone by one of its kind
  pub add-row-undo : (M : Mat K) (i k : ℕ) (a : F) → i ≢ k → (l c : ℕ) → add_row K (add_row K M i k a) i k a l c ≡ M l c
  add-row-undo M i k a d l c =
      at-or l i
      (λ e. add-row-at K (add_row K M i k a) i k a l c e ∙ rw (add-row-at K M i k a i c refl, add-row-off K M i k a k c (λ q. d (sym q)), e) (simp ring))
      (λ n. add-row-off K (add_row K M i k a) i k a l c n ∙ add-row-off K M i k a l c n)

  pub scale-row-undo : (M : Mat K) (i : ℕ) (a : F) → a ≢ 𝟎 → (l c : ℕ) → scale_row K (scale_row K M i a) i (K.inv a) l c ≡ M l c
  scale-row-undo M i a d l c =
      at-or l i
      (λ e. scale-row-at K (scale_row K M i a) i (K.inv a) l c e ∙ rw (scale-row-at K M i a i c refl, e, ← (mul_assoc K (K.inv a) a (M i c)), mul_comm K (K.inv a) a, K.mul_inv a d) (one-mul K _))
      (λ n. scale-row-off K (scale_row K M i a) i (K.inv a) l c n ∙ scale-row-off K M i a l c n)

  pub swap-undo : (M : Mat K) (i k : ℕ) → i ≢ k → (l : ℕ) → swap (swap M i k) i k l ≡ M l
  swap-undo M i k d l =
      at-or l i (λ e. rw e (swap-first (swap M i k) i k d ∙ swap-second M i k))
      (λ e. at-or l k (λ f. rw f (swap-second (swap M i k) i k ∙ swap-first M i k d)) (λ f. swap-other (swap M i k) i k l e f ∙ swap-other M i k l e f))
