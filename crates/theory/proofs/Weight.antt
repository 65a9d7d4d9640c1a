-- The weight of a word: what changes it, and a place of each kind where there is one. By induction on the length.
use mathlib.Core.Path.{◌≡◌, refl, sym, ap, ◌∙◌}
use mathlib.Core.Logic.{◌≢◌, ◌⊎◌, inl, inr}
use Prim.Native.Nat.{ℕ, zero, suc, ◌+◌, ◌≤◌, ◌<◌}
use native.Mathlib.Omega.{arith}
use native.Mathlib.Decide.{ℕ_discrete, dec_le}
use Rattle.theory.specs.Field.{Field}
use Rattle.theory.specs.Word.{put, Places, IsZero, NonZero, nz, wt}
use Rattle.theory.proofs.Field.{add-zero}
use Rattle.theory.proofs.Place.{pick_yes, pick_no, put_same, put_other, at-or, places-pred}

module _ (K : Field) where
  open K use {F, 𝟎, 𝟏, add as ◌⊕◌, dec}

  infixl 65 ◌⊕◌
  pub nz-zero : (a : F) → a ≡ 𝟎 → nz K a ≡ 0
  unfolding nz
  nz-zero a e = pick_yes (dec a) 0 1 e

  pub nz-one : (a : F) → a ≢ 𝟎 → nz K a ≡ 1
  unfolding nz
  nz-one a m = pick_no (dec a) 0 1 m

  pub nz-le : (a : F) → nz K a ≤ 1
  nz-le a = go (dec a)
    where
      go : Dec (a ≡ 𝟎) → nz K a ≤ 1
      go (yes e) = omega (arith, nz-zero a e)
      go (no m) = omega (arith, nz-one a m)

  pub zero-of-nz : (a : F) → nz K a ≤ 0 → a ≡ 𝟎
  zero-of-nz a h = go (dec a)
    where
      go : Dec (a ≡ 𝟎) → a ≡ 𝟎
      go (yes e) = e
      go (no m) = absurd (omega (arith, nz-one a m))

  pub nz-mono : (a b : F) → (a ≡ 𝟎 → b ≡ 𝟎) → nz K b ≤ nz K a
  nz-mono a b h = go (dec a)
    where
      go : Dec (a ≡ 𝟎) → nz K b ≤ nz K a
      go (yes e) = omega (arith, nz-zero b (h e))
      go (no m) = omega (arith, nz-one a m, nz-le b)

  pub nz-add : (a b : F) → nz K (a ⊕ b) ≤ nz K a + nz K b
  nz-add a b = go (dec a) (dec b)
    where
      go : Dec (a ≡ 𝟎) → Dec (b ≡ 𝟎) → nz K (a ⊕ b) ≤ nz K a + nz K b
      go (yes e) (yes e') = omega (arith, nz-zero (a ⊕ b) (rw (e, e', add-zero)))
      go (no m) d = omega (arith, nz-one a m, nz-le (a ⊕ b))
      go (yes e) (no m) = omega (arith, nz-one b m, nz-le (a ⊕ b))

  pub wt-max : (f : ℕ → F) (n : ℕ) → wt K f n ≤ n
  unfolding wt
  wt-max f zero = omega arith
  wt-max f (suc n) = omega (arith, wt-max f n, nz-le (f n))

  pub wt-mono : (f g : ℕ → F) (n : ℕ) → ((i : ℕ) → i < n → f i ≡ 𝟎 → g i ≡ 𝟎) → wt K g n ≤ wt K f n
  unfolding wt
  wt-mono f g zero h = omega arith
  wt-mono f g (suc n) h =
      omega (arith, wt-mono f g n (λ i l. h i (omega arith)), nz-mono (f n) (g n) (h n (omega arith)))

  pub wt-ext : (f g : ℕ → F) (n : ℕ) → ((i : ℕ) → i < n → f i ≡ g i) → wt K f n ≡ wt K g n
  wt-ext f g n h =
      omega (arith, wt-mono f g n (λ i l e. sym (h i l) ∙ e), wt-mono g f n (λ i l e. h i l ∙ e))

  pub wt-add : (f g : ℕ → F) (n : ℕ) → wt K (λ i. f i ⊕ g i) n ≤ wt K f n + wt K g n
  unfolding wt
  wt-add f g zero = omega arith
  wt-add f g (suc n) = omega (arith, wt-add f g n, nz-add (f n) (g n))

  -- a place fewer
  pub wt-lt : (f g : ℕ → F) (n p : ℕ) → ((i : ℕ) → i < n → f i ≡ 𝟎 → g i ≡ 𝟎) → p < n → f p ≢ 𝟎 → g p ≡ 𝟎 → wt K g n < wt K f n
  unfolding wt
  wt-lt f g zero p h l m e = absurd (omega arith)
  wt-lt f g (suc n) p h l m e =
      go (ℕ_discrete p n) (λ k. wt-lt f g n p (λ i j. h i (omega arith)) k m e)
    where
      go : Dec (p ≡ n) → (p < n → wt K g n < wt K f n) → wt K g n + nz K (g n) < wt K f n + nz K (f n)
      go (yes q) r =
          omega (arith, wt-mono f g n (λ i j. h i (omega arith)), nz-zero (g n) (rw q at e), nz-one (f n) (rw q at m))
      go (no d) r = omega (arith, r (omega arith), nz-mono (f n) (g n) (h n (omega arith)))

  pub wt-zero : (f : ℕ → F) (n : ℕ) → wt K f n ≤ 0 → (i : ℕ) → i < n → f i ≡ 𝟎
  unfolding wt
  wt-zero f zero h i l = absurd (omega arith)
  wt-zero f (suc n) h i l = go (ℕ_discrete i n) (wt-zero f n (omega arith) i)
    where
      go : Dec (i ≡ n) → (i < n → f i ≡ 𝟎) → f i ≡ 𝟎
      go (yes q) r = rw q (zero-of-nz (f n) (omega arith))
      go (no d) r = r (omega arith)

  -- a place that is not zero, where there is one
  pub wt-find : (f : ℕ → F) (n : ℕ) → 0 < wt K f n → NonZero K n f
  unfolding wt
  wt-find f zero h = absurd (omega arith)
  wt-find f (suc n) h = go (dec (f n)) (λ k. wt-find f n k)
    where
      go : Dec (f n ≡ 𝟎) → (0 < wt K f n → NonZero K n f) → NonZero K (suc n) f
      go (yes e) r = let (p, l, m) = r (omega (arith, nz-zero (f n) e)) in (p, omega arith, m)
      go (no m) r = (n, omega arith, m)

  -- a place that is zero, where there is one
  pub wt-find-zero : (f : ℕ → F) (n : ℕ) → wt K f n < n → (p : ℕ) × (p < n) × (f p ≡ 𝟎)
  unfolding wt
  wt-find-zero f zero h = absurd (omega arith)
  wt-find-zero f (suc n) h = go (dec (f n)) (λ k. wt-find-zero f n k)
    where
      go : Dec (f n ≡ 𝟎) → (wt K f n < n → (p : ℕ) × (p < n) × (f p ≡ 𝟎)) → (p : ℕ) × (p < suc n) × (f p ≡ 𝟎)
      go (yes e) r = (n, omega arith, e)
      go (no m) r = let (p, l, e) = r (omega (arith, nz-one (f n) m)) in (p, omega arith, e)

  -- one place more, at most
  pub wt-le-suc : (f g : ℕ → F) (n p : ℕ) → ((i : ℕ) → i < n → i ≢ p → f i ≡ 𝟎 → g i ≡ 𝟎) → wt K g n ≤ suc (wt K f n)
  unfolding wt
  wt-le-suc f g zero p h = omega arith
  wt-le-suc f g (suc n) p h = go (ℕ_discrete p n) (wt-le-suc f g n p (λ i l. h i (omega arith)))
    where
      go : Dec (p ≡ n) → wt K g n ≤ suc (wt K f n) → wt K g n + nz K (g n) ≤ suc (wt K f n + nz K (f n))
      go (yes e) r = omega (arith, wt-mono f g n (λ i l. h i (omega arith) (omega arith)), nz-le (g n))
      go (no d) r = omega (arith, nz-mono (f n) (g n) (h n (omega arith) (omega arith)))

  -- k distinct places that are zero
  pub wt-places : (k : ℕ) (f : ℕ → F) (n : ℕ) (p : ℕ → ℕ) → Places n k p → ((l : ℕ) → l < k → f (p l) ≡ 𝟎) → wt K f n + k ≤ n
  wt-places zero f n p Q z = omega (arith, wt-max f n)
  wt-places (suc k) f n p Q z =
      omega (arith, wt-places k g n p (places-pred n k p Q) (λ l h. put_other f (p k) 𝟏 (p l) (Q.apart l k h (omega arith)) ∙ z l (omega arith)), smaller)
    where
      g : ℕ → F
      g = put f (p k) 𝟏

      smaller : wt K f n < wt K g n
      smaller =
          wt-lt g f n (p k)
          (λ i h e. at-or i (p k) (λ j. absurd (K.one_ne_zero (sym (put_same f (p k) 𝟏 i j) ∙ e))) (λ j. sym (put_other f (p k) 𝟏 i j) ∙ e))
          (Q.below k (omega arith)) (λ e. K.one_ne_zero (sym (put_same f (p k) 𝟏 (p k) refl) ∙ e)) (z k (omega arith))

  wt-none : (n : ℕ) → wt K (λ i. 𝟎) n ≤ 0
  unfolding wt
  wt-none zero = omega arith
  wt-none (suc n) = omega (arith, wt-none n, nz-zero 𝟎 refl)

  -- each place i of g is zero where f is zero at every place that σ takes to i: g has no more weight than f
  pub wt-along : (N : ℕ) (f g : ℕ → F) (n : ℕ) (σ : ℕ → ℕ) → ((i : ℕ) → i < n → ((j : ℕ) → j < N → σ j ≡ i → f j ≡ 𝟎) → g i ≡ 𝟎)
      → wt K g n ≤ wt K f N
  unfolding wt
  wt-along zero f g n σ h =
      omega (arith, wt-mono (λ i. 𝟎) g n (λ i l e. h i l (λ j k. absurd (omega arith))), wt-none n)
  wt-along (suc N) f g n σ h = go (K.dec (f N)) (wt-along N f g n σ) (wt-along N f (put g (σ N) 𝟎) n σ)
    where
      go : Dec (f N ≡ 𝟎) → (((i : ℕ) → i < n → ((j : ℕ) → j < N → σ j ≡ i → f j ≡ 𝟎) → g i ≡ 𝟎) → wt K g n ≤ wt K f N)
          → (((i : ℕ) → i < n → ((j : ℕ) → j < N → σ j ≡ i → f j ≡ 𝟎) → put g (σ N) 𝟎 i ≡ 𝟎) → wt K (put g (σ N) 𝟎) n ≤ wt K f N)
          → wt K g n ≤ wt K f N + nz K (f N)
      go (yes e) r s =
          omega (arith, r (λ i l z. h i l (λ j k q. at-or j N (λ o. rw o e) (λ o. z j (omega arith) q))))
      go (no d) r s =
          omega (arith, nz-one (f N) d, wt-le-suc (put g (σ N) 𝟎) g n (σ N) (λ i l o e. sym (put_other g (σ N) 𝟎 i o) ∙ e), s (λ i l z. at-or i (σ N) (λ o. put_same g (σ N) 𝟎 i o) (λ o. put_other g (σ N) 𝟎 i o ∙ h i l (λ j k q. at-or j N (λ x. absurd (o (sym q ∙ ap σ x))) (λ x. z j (omega arith) q)))))

  -- a word is zero, or a place shows that it is not
  pub zero_or : (f : ℕ → F) (n : ℕ) → IsZero K n f ⊎ NonZero K n f
  zero_or f n = go (dec_le (wt K f n) 0)
    where
      go : Dec (wt K f n ≤ 0) → IsZero K n f ⊎ NonZero K n f
      go (yes h) = inl (wt-zero f n h)
      go (no h) = inr (wt-find f n (omega arith))
