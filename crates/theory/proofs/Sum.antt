-- Sums of the values of a function below a number: by induction on the number.
use mathlib.Core.Path.{◌≡◌, refl, sym, ap, ap₂, ◌∙◌}
use mathlib.Core.Logic.{◌≢◌}
use Prim.Native.Nat.{ℕ, zero, suc, ◌+◌, ◌<◌}
use native.Mathlib.Omega.{arith}
use native.Mathlib.Nat.{add-suc}
use native.Mathlib.Nat.{add-zero as +-zero}
use native.Mathlib.Decide.{ℕ_discrete}
use Rattle.theory.specs.Field.{Field}
use Rattle.theory.specs.Word.{put, Places, Off, unit, sum}
use Rattle.theory.proofs.Field.{ring, add-zero, zero-add, add-self, mul_comm, mul-zero, mul-one, one-mul, zero-mul}
use Rattle.theory.proofs.Place.{put_same, put_other, at-or, places-pred}

module _ (K : Field) where
  open K use {F, 𝟎, 𝟏, add as ◌⊕◌, mul as ◌⊗◌}

  infixl 65 ◌⊕◌
  infixl 70 ◌⊗◌
  -- the clauses as laws: `simp (sum-suc, ..)` opens a sum where `rw` does not look
  pub sum-suc : (f : ℕ → F) (n : ℕ) → sum K f (suc n) ≡ sum K f n ⊕ f n
  unfolding sum
  sum-suc f n = refl

  pub sum-nil : (f : ℕ → F) → sum K f 0 ≡ 𝟎
  unfolding sum
  sum-nil f = refl

  pub sum-ext : (f g : ℕ → F) (n : ℕ) → ((i : ℕ) → i < n → f i ≡ g i) → sum K f n ≡ sum K g n
  unfolding sum
  sum-ext f g zero h = refl
  sum-ext f g (suc n) h = ap₂ ◌⊕◌ (sum-ext f g n (λ i l. h i (omega arith))) (h n (omega arith))

  pub sum-zero : (f : ℕ → F) (n : ℕ) → ((i : ℕ) → i < n → f i ≡ 𝟎) → sum K f n ≡ 𝟎
  unfolding sum
  sum-zero f zero h = refl
  sum-zero f (suc n) h = ap₂ ◌⊕◌ (sum-zero f n (λ i l. h i (omega arith))) (h n (omega arith)) ∙ add-zero K 𝟎

  pub sum-add : (f g : ℕ → F) (n : ℕ) → sum K (λ i. f i ⊕ g i) n ≡ sum K f n ⊕ sum K g n
  sum-add f g zero = simp (sum-nil, ring)
  sum-add f g (suc n) = simp (sum-suc, sum-add f g n, ring)

  pub sum-mul : (a : F) (f : ℕ → F) (n : ℕ) → sum K (λ i. a ⊗ f i) n ≡ a ⊗ sum K f n
  sum-mul a f zero = simp (sum-nil, ring)
  sum-mul a f (suc n) = simp (sum-suc, sum-mul a f n, ring)

  pub sum-mul-right : (a : F) (f : ℕ → F) (n : ℕ) → sum K (λ i. f i ⊗ a) n ≡ sum K f n ⊗ a
  sum-mul-right a f n = sum-ext _ _ n (λ i l. mul_comm K (f i) a) ∙ sum-mul a f n ∙ mul_comm K a _

  pub sum-swap : (f : ℕ → ℕ → F) (n m : ℕ) → sum K (λ i. sum K (f i) m) n ≡ sum K (λ j. sum K (λ i. f i j) n) m
  sum-swap f zero m = simp sum-nil (sym (sum-zero (λ j. 𝟎) m (λ i l. refl)))
  sum-swap f (suc n) m =
      simp (sum-suc, sum-swap f n m) (sym (sum-add (λ j. sum K (λ i. f i j) n) (f n) m))

  -- a function that is zero below n but at p
  pub sum-only : (f : ℕ → F) (n p : ℕ) → p < n → ((i : ℕ) → i < n → i ≢ p → f i ≡ 𝟎) → sum K f n ≡ f p
  unfolding sum
  sum-only f zero p l h = absurd (omega arith)
  sum-only f (suc n) p l h = go (ℕ_discrete p n) (λ k. sum-only f n p k (λ i j. h i (omega arith)))
    where
      go : Dec (p ≡ n) → (p < n → sum K f n ≡ f p) → sum K f n ⊕ f n ≡ f p
      go (yes e) r = rw (sum-zero f n (λ i k. h i (omega arith) (omega arith))) (zero-add K (f n) ∙ ap f (sym e))
      go (no d) r = rw (h n (omega arith) (omega arith)) (add-zero K _ ∙ r (omega arith))

  pub sum_first : (f : ℕ → F) (n : ℕ) → sum K f (suc n) ≡ f 0 ⊕ sum K (λ i. f (suc i)) n
  sum_first f zero = sum-suc f 0 ∙ simp (sum-nil, ring)
  sum_first f (suc n) = sum-suc f (suc n) ∙ rw (sum_first f n) (simp (sum-suc, ring))

  pub sum-append : (f : ℕ → F) (n m : ℕ) → sum K f (n + m) ≡ sum K f n ⊕ sum K (λ i. f (n + i)) m
  sum-append f n zero = simp (+-zero, sum-nil, add-zero)
  sum-append f n (suc m) = simp (add-suc, sum-suc, sum-append f n m, ring)

  -- one index taken out
  pub sum-isolate : (f : ℕ → F) (n p : ℕ) → p < n → sum K f n ≡ f p ⊕ sum K (put f p 𝟎) n
  sum-isolate f n p l =
      let d : sum K (λ i. f i ⊕ put f p 𝟎 i) n ≡ f p = sum-only _ n p l (λ i k m. rw (put_other f p 𝟎 i m) (simp ring)) ∙ rw (put_same f p 𝟎 p refl) (add-zero K _) in
      rw (← d, sum-add f (put f p 𝟎) n) (simp ring)

  -- the sum over the places p 0, .., p (r - 1) alone, where the others are zero
  pub sum-reindex : (r : ℕ) (g : ℕ → F) (n : ℕ) (p : ℕ → ℕ) → Places n r p → ((i : ℕ) → i < n → Off r p i → g i ≡ 𝟎)
      → sum K g n ≡ sum K (λ l. g (p l)) r
  sum-reindex zero g n p Q z = sum-zero g n (λ i l. z i l (λ k h. absurd (omega arith))) ∙ simp sum-nil
  sum-reindex (suc r) g n p Q z =
      sum-isolate g n (p r) (Q.below r (omega arith))
      ∙ ap (λ x. g (p r) ⊕ x) (sum-reindex r (put g (p r) 𝟎) n p (places-pred n r p Q) zero-out ∙ sum-ext _ _ r (λ l k. put_other g (p r) 𝟎 (p l) (Q.apart l r k (omega arith))))
      ∙ simp (sum-suc, ring)
    where
      zero-out : (i : ℕ) → i < n → Off r p i → put g (p r) 𝟎 i ≡ 𝟎
      zero-out i h o =
          at-or i (p r) (λ e. put_same g (p r) 𝟎 i e)
          (λ m. put_other g (p r) 𝟎 i m ∙ z i h (λ l k. at-or l r (λ e. rw e m) (λ k'. o l (omega arith))))

  -- two functions that differ at p alone
  pub sum-change : (f g : ℕ → F) (n p : ℕ) → p < n → ((i : ℕ) → i < n → i ≢ p → f i ≡ g i) → sum K f n ≡ sum K g n ⊕ (f p ⊕ g p)
  sum-change f g n p l h =
      let d : sum K (λ i. f i ⊕ g i) n ≡ f p ⊕ g p = sum-only (λ i. f i ⊕ g i) n p l (λ i k m. rw (h i k m) (add-self K _)) in
      rw (← d, sum-add f g n) (simp ring)

  -- a function that is zero but at two places
  pub sum-two : (f : ℕ → F) (n p q : ℕ) → p < n → q < n → p ≢ q → ((i : ℕ) → i < n → i ≢ p → i ≢ q → f i ≡ 𝟎)
      → sum K f n ≡ f p ⊕ f q
  sum-two f n p q l k d z =
      sum-isolate f n p l
      ∙ ap (λ x. f p ⊕ x) (sum-only (put f p 𝟎) n q k (λ i j m. at-or i p (λ e. put_same f p 𝟎 i e) (λ e. put_other f p 𝟎 i e ∙ z i j e m)) ∙ put_other f p 𝟎 q (λ e. d (sym e)))

  pub unit-same : (i j : ℕ) → j ≡ i → unit K i j ≡ 𝟏
  unfolding unit
  unit-same i j e = put_same _ i _ j e

  pub unit-other : (i j : ℕ) → j ≢ i → unit K i j ≡ 𝟎
  unfolding unit
  unit-other i j d = put_other _ i _ j d

  -- a combination with the factors of a unit word
  pub sum-unit : (f : ℕ → F) (k i : ℕ) → i < k → sum K (λ j. unit K i j ⊗ f j) k ≡ f i
  sum-unit f k i l =
      sum-only _ k i l (λ j h d. rw (unit-other i j d) (zero-mul K _)) ∙ rw (unit-same i i refl) (one-mul K _)

  -- a combination of the unit words
  pub sum-unit-right : (f : ℕ → F) (k j : ℕ) → j < k → sum K (λ i. f i ⊗ unit K i j) k ≡ f j
  sum-unit-right f k j l =
      sum-only _ k j l (λ i h d. rw (unit-other i j (λ e. d (sym e))) (mul-zero K _)) ∙ rw (unit-same j j refl) (mul-one K _)
