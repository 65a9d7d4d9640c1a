-- Polynomials: values, and the root count by division by (x - a): one with m coefficients and m roots among distinct points is zero.
use mathlib.Core.Path.{◌≡◌, refl, sym, ap, ◌∙◌}
use mathlib.Core.Logic.{◌≢◌}
use Prim.Native.Nat.{ℕ, zero, suc, ◌+◌, ◌≤◌, ◌<◌}
use native.Mathlib.Omega.{arith}
use native.Mathlib.Decide.{dec_le}
use Rattle.theory.specs.Field.{Field}
use Rattle.theory.specs.Word.{IsZero, NonZero, pow, wt}
use Rattle.theory.specs.Code.{Points, syn, ev, tail}
use Rattle.theory.proofs.Field.{ring, add-zero, zero-add, mul-zero, mul-one, zero-mul, mul-cancel, add-ne-zero}
use Rattle.theory.proofs.Sum.{sum-suc, sum-nil, sum-ext, sum-zero, sum-add, sum-mul, sum_first, sum-append}
use Rattle.theory.proofs.Weight.{wt-le-suc, wt-find-zero}
use Rattle.theory.proofs.Power.{pow-zero, pow-suc, pow-swap}

module _ (K : Field) where
  open K use {F, 𝟎, 𝟏, add as ◌⊕◌, mul as ◌⊗◌}

  infixl 65 ◌⊕◌
  infixl 70 ◌⊗◌
  pub ev-nil : (Λ : ℕ → F) (x : F) → ev K Λ 0 x ≡ 𝟎
  unfolding ev
  ev-nil Λ x = sum-nil K _

  -- Horner's rule
  pub ev-first : (Λ : ℕ → F) (m : ℕ) (x : F) → ev K Λ (suc m) x ≡ Λ 0 ⊕ x ⊗ ev K (tail K Λ) m x
  unfolding ev tail
  ev-first Λ m x =
      sum_first K _ m
      ∙ rw (pow-zero K x, mul-one) (ap (λ y. Λ 0 ⊕ y) (sum-ext K _ _ m (λ j l. simp (pow-suc, ring)) ∙ sum-mul K x (λ j. Λ (suc j) ⊗ pow K x j) m))

  pub ev-one : (Λ : ℕ → F) (x : F) → ev K Λ 1 x ≡ Λ 0
  ev-one Λ x = ev-first Λ 0 x ∙ simp (ev-nil, ring)

  pub ev-suc : (Λ : ℕ → F) (m : ℕ) (x : F) → ev K Λ (suc m) x ≡ ev K Λ m x ⊕ Λ m ⊗ pow K x m
  unfolding ev
  ev-suc Λ m x = sum-suc K _ m

  pub ev-ext : (a b : ℕ → F) (m : ℕ) (x : F) → ((i : ℕ) → i < m → a i ≡ b i) → ev K a m x ≡ ev K b m x
  unfolding ev
  ev-ext a b m x h = sum-ext K _ _ m (λ i l. rw (h i l))

  pub ev-add : (p q : ℕ → F) (a : F) (m : ℕ) (x : F) → ev K (λ j. p j ⊕ a ⊗ q j) m x ≡ ev K p m x ⊕ a ⊗ ev K q m x
  unfolding ev
  ev-add p q a m x =
      sum-ext K _ _ m (λ j l. simp ring) ∙ sum-add K (λ j. p j ⊗ pow K x j) (λ j. a ⊗ (q j ⊗ pow K x j)) m
      ∙ rw (sum-mul K a (λ j. q j ⊗ pow K x j) m)

  -- coefficients that are zero add nothing
  pub ev-grow : (g : ℕ → F) (m r : ℕ) (x : F) → ((j : ℕ) → m ≤ j → g j ≡ 𝟎) → ev K g (m + r) x ≡ ev K g m x
  unfolding ev
  ev-grow g m r x h =
      sum-append K _ m r
      ∙ rw (sum-zero K (λ i. g (m + i) ⊗ pow K x (m + i)) r (λ j l. rw (h (m + j) (omega arith)) (zero-mul K _))) (add-zero K _)

  -- the power sum number j of a word at 1, α, α², .. is the value at α^j of the polynomial with the word's coefficients
  pub syn-value : (α : F) (n : ℕ) (c : ℕ → F) (j : ℕ) → syn K (pow K α) n c j ≡ ev K c n (pow K α j)
  unfolding syn ev
  syn-value α n c j = sum-ext K _ _ n (λ i l. ap (λ x. c i ⊗ x) (pow-swap K α i j))

  -- the quotient by (x - a) of the polynomial with m coefficients
  quo : (ℕ → F) → F → ℕ → ℕ → F
  quo Λ a zero j = 𝟎
  quo Λ a (suc m) zero = ev K (tail K Λ) m a
  quo Λ a (suc m) (suc j) = quo (tail K Λ) a m j

  quo-first : (Λ : ℕ → F) (a : F) (m : ℕ) → quo Λ a (suc m) 0 ≡ ev K (tail K Λ) m a
  unfolding quo
  quo-first Λ a m = refl

  quo-tail : (Λ : ℕ → F) (a : F) (m : ℕ) → tail K (quo Λ a (suc m)) ≡ quo (tail K Λ) a m
  unfolding quo tail
  quo-tail Λ a m = refl

  factor : (m : ℕ) (Λ : ℕ → F) (a x : F) → ev K Λ (suc m) x ≡ ev K Λ (suc m) a ⊕ (x ⊕ a) ⊗ ev K (quo Λ a (suc m)) m x
  factor zero Λ a x = simp (ev-one, ev-nil, ring)
  factor (suc m) Λ a x =
      rw (ev-first Λ (suc m) x, ev-first Λ (suc m) a, ev-first (quo Λ a (suc (suc m))) m x, quo-first, quo-tail, factor m (tail K Λ) a x)
      (simp ring)

  quo-zero : (m : ℕ) (Λ : ℕ → F) (a : F) → ev K Λ (suc m) a ≡ 𝟎 → IsZero K m (quo Λ a (suc m)) → IsZero K (suc m) Λ
  unfolding quo tail
  quo-zero zero Λ a h z zero l = sym (ev-one Λ a) ∙ h
  quo-zero zero Λ a h z (suc j) l = absurd (omega arith)
  quo-zero (suc m) Λ a h z zero l = rw (ev-first, z 0 (omega arith), mul-zero, add-zero) at h
  quo-zero (suc m) Λ a h z (suc j) l =
      quo-zero m (tail K Λ) a (z 0 (omega arith)) (λ i k. z (suc i) (omega arith)) j (omega arith)

  module _ (X : ℕ → F) (n : ℕ) (P : Points K X n) where
    -- the quotient by (x - X p) has all the roots but X p
    fewer : (m : ℕ) (Λ : ℕ → F) (p : ℕ) → p < n → ev K Λ (suc m) (X p) ≡ 𝟎 → (i : ℕ) → i < n → i ≢ p → ev K Λ (suc m) (X i) ≡ 𝟎
        → ev K (quo Λ (X p) (suc m)) m (X i) ≡ 𝟎
    fewer m Λ p k e i h d z =
        mul-cancel K (X i ⊕ X p) _ (add-ne-zero K _ _ (P.distinct i p h k d))
        (sym (rw (e, zero-add) at (factor m Λ (X p) (X i))) ∙ z)

    -- a polynomial with m coefficients and m roots among the points
    pub roots : (m : ℕ) (Λ : ℕ → F) → wt K (λ p. ev K Λ m (X p)) n + m ≤ n → IsZero K m Λ
    roots zero Λ w j l = absurd (omega arith)
    roots (suc m) Λ w j l = go (wt-find-zero K (λ p. ev K Λ (suc m) (X p)) n (omega arith)) (roots m)
      where
        go : (p : ℕ) × (p < n) × (ev K Λ (suc m) (X p) ≡ 𝟎) → ((Q : ℕ → F) → wt K (λ p. ev K Q m (X p)) n + m ≤ n → IsZero K m Q)
            → Λ j ≡ 𝟎
        go (p, k, e) ih =
            quo-zero m Λ (X p) e (ih (quo Λ (X p) (suc m)) (omega (arith, wt-le-suc K _ _ n p (fewer m Λ p k e)))) j l

    -- THEOREM (root count). A polynomial with t + 1 coefficients that is not zero has at most t roots among the n points:
    -- its values at the others, at least n - t of them, are not zero.
    pub few-roots : (t : ℕ) (Λ : ℕ → F) → NonZero K (suc t) Λ → n ≤ wt K (λ p. ev K Λ (suc t) (X p)) n + t
    few-roots t Λ (j, l, d) = go (dec_le n (wt K (λ p. ev K Λ (suc t) (X p)) n + t))
      where
        go : Dec (n ≤ wt K (λ p. ev K Λ (suc t) (X p)) n + t) → n ≤ wt K (λ p. ev K Λ (suc t) (X p)) n + t
        go (yes h) = h
        go (no h) = absurd (d (roots (suc t) Λ (omega arith) j l))
