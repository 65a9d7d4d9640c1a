-- The generator has the roots α, .., α^s and a first coefficient that is not zero: so its shifts are code words, and independent.
use mathlib.Core.Path.{◌≡◌, refl, sym, ap, ap₂, ◌∙◌}
use mathlib.Core.Logic.{◌≢◌}
use Prim.Native.Nat.{ℕ, zero, suc, ◌+◌, ◌-◌, ◌<◌}
use native.Mathlib.Omega.{arith}
use native.Mathlib.Decide.{dec_lt}
use Rattle.theory.specs.Field.{Field}
use Rattle.theory.specs.Word.{IsZero, unit, pow}
use Rattle.theory.specs.Code.{IsCode, ev, tail, with_root, product, shifted, gen, G0}
use Rattle.theory.specs.Matrix.{Inj, comb}
use Rattle.theory.proofs.Field.{ring, zero-mul, mul-zero, mul_comm, add-zero, zero-add, add-self, mul-cancel, mul-ne-zero}
use Rattle.theory.proofs.Place.{pick_yes, pick_no, at-or, below_or}
use Rattle.theory.proofs.Sum.{sum-ext, sum-zero, sum-mul, sum-only, sum-append, unit-same, unit-other}
use Rattle.theory.proofs.Power.{pow-add, pow-ne-zero}
use Rattle.theory.proofs.Poly.{ev-first, ev-suc, ev-ext, ev-add, ev-grow, syn-value}

module _ (K : Field) where
  open K use {F, 𝟎, 𝟏, add as ◌⊕◌, mul as ◌⊗◌}

  infixl 65 ◌⊕◌
  infixl 70 ◌⊗◌
  ev-with-root : (a : F) (p : ℕ → F) (m : ℕ) (x : F) → p m ≡ 𝟎 → ev K (with_root K a p) (suc m) x ≡ (x ⊕ a) ⊗ ev K p m x
  ev-with-root a p m x z =
      ev-first K (with_root K a p) m x
      ∙ ap₂ (λ y e. y ⊕ x ⊗ e) head (ev-ext K (tail K (with_root K a p)) (λ j. p j ⊕ a ⊗ tail K p j) m x step ∙ ev-add K p (tail K p) a m x)
      ∙ last
    where
      head : with_root K a p 0 ≡ a ⊗ p 0
      head = unfold with_root in refl

      step : (j : ℕ) → j < m → tail K (with_root K a p) j ≡ p j ⊕ a ⊗ tail K p j
      step j l = unfold with_root tail in refl

      whole : p 0 ⊕ x ⊗ ev K (tail K p) m x ≡ ev K p m x
      whole = sym (ev-first K p m x) ∙ ev-suc K p m x ∙ rw (z, zero-mul, add-zero)

      last : a ⊗ p 0 ⊕ x ⊗ (ev K p m x ⊕ a ⊗ ev K (tail K p) m x) ≡ (x ⊕ a) ⊗ ev K p m x
      last = group ∙ rw whole (simp ring)
        where
          group : a ⊗ p 0 ⊕ x ⊗ (ev K p m x ⊕ a ⊗ ev K (tail K p) m x) ≡ x ⊗ ev K p m x ⊕ a ⊗ (p 0 ⊕ x ⊗ ev K (tail K p) m x)
          group = simp ring

  module _ (ρ : ℕ → F) where
    -- the clauses as laws
    pub product-nil : (j : ℕ) → product K ρ 0 j ≡ unit K 0 j
    unfolding product
    product-nil j = refl

    pub product-zero : (m : ℕ) → product K ρ (suc m) 0 ≡ ρ m ⊗ product K ρ m 0
    unfolding product with_root
    product-zero m = refl

    pub product-suc : (m j : ℕ) → product K ρ (suc m) (suc j) ≡ product K ρ m j ⊕ ρ m ⊗ product K ρ m (suc j)
    unfolding product with_root
    product-suc m j = refl

    -- degree m, last coefficient 1, first coefficient not zero, roots ρ 0, .., ρ (m - 1)
    pub product-above : (m j : ℕ) → m < j → product K ρ m j ≡ 𝟎
    product-above zero j l = product-nil j ∙ unit-other K 0 j (omega arith)
    product-above (suc m) zero l = absurd (omega arith)
    product-above (suc m) (suc j) l =
        rw (product-suc, product-above m j (omega arith), product-above m (suc j) (omega arith)) (simp ring)

    pub product-monic : (m : ℕ) → product K ρ m m ≡ 𝟏
    product-monic zero = product-nil 0 ∙ unit-same K 0 0 refl
    product-monic (suc m) = rw (product-suc, product-monic m, product-above m (suc m) (omega arith)) (simp ring)

    pub product-first : (m : ℕ) → ((i : ℕ) → i < m → ρ i ≢ 𝟎) → product K ρ m 0 ≢ 𝟎
    product-first zero h e = K.one_ne_zero (sym (product-nil 0 ∙ unit-same K 0 0 refl) ∙ e)
    product-first (suc m) h e =
        mul-ne-zero K _ _ (h m (omega arith)) (product-first m (λ i l. h i (omega arith))) (sym (product-zero m) ∙ e)

    pub product-root : (m i : ℕ) → i < m → ev K (product K ρ m) (suc m) (ρ i) ≡ 𝟎
    product-root zero i l = absurd (omega arith)
    product-root (suc m) i l =
        step ∙ at-or i m (λ e. rw (e, add-self) (zero-mul K _)) (λ d. rw (product-root m i (omega arith)) (mul-zero K _))
      where
        step : ev K (product K ρ (suc m)) (suc (suc m)) (ρ i) ≡ (ρ i ⊕ ρ m) ⊗ ev K (product K ρ m) (suc m) (ρ i)
        step = unfold product in ev-with-root (ρ m) (product K ρ m) (suc m) (ρ i) (product-above m (suc m) (omega arith))

  module _ (g : ℕ → F) where
    pub shifted-low : (i j : ℕ) → j < i → shifted K g i j ≡ 𝟎
    unfolding shifted
    shifted-low i j l = pick_yes (dec_lt j i) _ _ l

    pub shifted_at : (i j l : ℕ) → j ≡ i + l → shifted K g i j ≡ g l
    unfolding shifted
    shifted_at i j l e = pick_no (dec_lt j i) _ _ (omega arith) ∙ ap g (omega arith)

    ev-shifted : (i m : ℕ) (x : F) → ev K (shifted K g i) (i + m) x ≡ pow K x i ⊗ ev K g m x
    unfolding ev
    ev-shifted i m x =
        sum-append K _ i m
        ∙ rw (sum-zero K (λ j. shifted K g i j ⊗ pow K x j) i (λ j l. rw (shifted-low i j l) (zero-mul K _)), zero-add) (sum-ext K _ _ m (λ l h. rw (shifted_at i (i + l) l refl, pow-add K x i l) (simp ring)) ∙ sum-mul K (pow K x i) _ m)

    -- the shifts of a polynomial with the roots α, .., α^s and the degree s are code words
    pub shifted-code : (α : F) (n s i : ℕ) → ((j : ℕ) → s < j → g j ≡ 𝟎)
        → ((j : ℕ) → j < s → ev K g (suc s) (pow K α (suc j)) ≡ 𝟎) → i + s < n → IsCode K (pow K α) n s (shifted K g i)
    shifted-code α n s i top root l j h =
        let q : n ≡ i + (suc s + (n - suc (i + s))) = omega arith in
        syn-value K α n (shifted K g i) (suc j) ∙ ap (λ m. ev K (shifted K g i) m (pow K α (suc j))) q ∙ ev-shifted i _ _
        ∙ rw (ev-grow K g (suc s) (n - suc (i + s)) (pow K α (suc j)) (λ j l. top j (omega arith)), root j h) (mul-zero K _)

  -- a triangular matrix: no combination of the rows but that of zero is zero in the first k columns
  pub triangular : (G : ℕ → ℕ → F) (k : ℕ) → ((i j : ℕ) → i < k → j < i → G i j ≡ 𝟎) → ((i : ℕ) → i < k → G i i ≢ 𝟎)
      → Inj K (IsZero K k) k G
  unfolding comb
  triangular G k low diag x h j l = upto (suc j) j (omega arith) l
    where
      next : (c : ℕ) → c < k → ((j : ℕ) → j < c → j < k → x j ≡ 𝟎) → x c ≡ 𝟎
      next c l r =
          mul-cancel K (G c c) (x c) (diag c l)
          (mul_comm K _ _ ∙ sym (sum-only K (λ i. x i ⊗ G i c) k c l (λ i o d. below_or i c (λ b. rw (r i b o) (zero-mul K _)) (λ b. rw (low i c o (omega arith)) (mul-zero K _)))) ∙ h c l)

      upto : (c j : ℕ) → j < c → j < k → x j ≡ 𝟎
      upto zero j a b = absurd (omega arith)
      upto (suc c) j a b = at-or j c (λ e. rw e (next c (omega arith) (upto c))) (λ d. upto c j (omega arith) b)

  -- the generator grows by a root at a time
  pub gen-nil : (α : F) (j : ℕ) → gen K α 0 j ≡ unit K 0 j
  unfolding gen
  gen-nil α = product-nil _

  pub gen-next : (α : F) (s j : ℕ) → gen K α (suc s) j ≡ with_root K (pow K α (suc s)) (gen K α s) j
  unfolding gen product
  gen-next α s j = refl

  module _ (α : F) (s : ℕ) where
    pub gen-above : (j : ℕ) → s < j → gen K α s j ≡ 𝟎
    unfolding gen
    gen-above = product-above _ s

    pub gen-monic : gen K α s s ≡ 𝟏
    unfolding gen
    gen-monic = product-monic _ s

    pub gen-first : α ≢ 𝟎 → gen K α s 0 ≢ 𝟎
    unfolding gen
    gen-first a = product-first _ s (λ i l. pow-ne-zero K α _ a)

    pub gen-root : (j : ℕ) → j < s → ev K (gen K α s) (suc s) (pow K α (suc j)) ≡ 𝟎
    unfolding gen
    gen-root = product-root _ s

    -- the entries of G0: row i is zero before column i, and the generator from there on
    pub G0-low : (i j : ℕ) → j < i → G0 K α s i j ≡ 𝟎
    unfolding G0
    G0-low = shifted-low _

    pub G0-at : (i j l : ℕ) → j ≡ i + l → G0 K α s i j ≡ gen K α s l
    unfolding G0
    G0-at = shifted_at _

    -- THEOREM (generator, code). The rows of G0, the shifts of the product of (x - α^i) for i = 1..s, are code words.
    pub generator-code : (n i : ℕ) → i + s < n → IsCode K (pow K α) n s (G0 K α s i)
    unfolding G0
    generator-code n i = shifted-code (gen K α s) α n s i gen-above gen-root

    -- THEOREM (generator, independent). x·G0 = 0 only of x = 0, and the first k columns already say so.
    pub generator-independent : α ≢ 𝟎 → (k : ℕ) → Inj K (IsZero K k) k (G0 K α s)
    generator-independent a k =
        triangular (G0 K α s) k (λ i j l. G0-low i j) (λ i l e. gen-first a (sym (G0-at i i 0 (omega arith)) ∙ e))
