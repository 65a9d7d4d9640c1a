-- The first usable row: where it lies, that it is usable, and that where there is none the column is zero from the pivot row down.
use mathlib.Core.Path.{◌≡◌, refl, sym, ◌∙◌}
use mathlib.Core.Logic.{◌≢◌}
use mathlib.Core.Bool.{Bool, true, false, not}
use mathlib.Core.List.{List}
use Prim.Native.Nat.{ℕ, zero, suc, ◌+◌, ◌-◌, ◌<◌, ◌≤◌}
use native.Mathlib.Omega.{arith}
use lib.Dec.{eqb}
use borrow.Author.Tests.{eq-eqb, ne_eqb}
use Rattle.lists.specs.Loops.{first}
use Rattle.theory.proofs.Place.{at-or}
use Rattle.linear.specs.Matrix.{entry}
use Rattle.linear.specs.Elimination.{usable, pivot_row}

by-test : {C : Type 0} (b : Bool) → (b ≡ true → C) → (b ≡ false → C) → C
by-test true f g = f refl
by-test false f g = g refl

module _ (p : ℕ → Bool) where
  hit : (n i : ℕ) → p i ≡ true → first p (suc n) i ≡ i
  unfolding first
  hit n i e = rw e

  miss : (n i : ℕ) → p i ≡ false → first p (suc n) i ≡ first p n (suc i)
  unfolding first
  miss n i e = rw e

  none_left : (i : ℕ) → first p 0 i ≡ i
  unfolding first
  none_left i = refl

  first-from : (n i : ℕ) → i ≤ first p n i
  first-from zero i = rw none_left (omega arith)
  first-from (suc n) i =
      by-test (p i) (λ e. rw (hit n i e) (omega arith)) (λ e. rw (miss n i e) (omega (arith, first-from n (suc i))))

  first_passes : (n i : ℕ) → first p n i < i + n → p (first p n i) ≡ true
  first_passes zero i h = absurd (omega (arith, none_left i))
  first_passes (suc n) i h =
      by-test (p i) (λ e. rw (hit n i e) e)
      (λ e. rw (miss n i e) (first_passes n (suc i) (omega (arith, miss n i e))))

  first-none : (n i : ℕ) → i + n ≤ first p n i → (k : ℕ) → i ≤ k → k < i + n → p k ≡ false
  first-none zero i h k a b = absurd (omega arith)
  first-none (suc n) i h k a b =
      by-test (p i) (λ e. absurd (omega (arith, hit n i e)))
      (λ e. at-or k i (λ q. rw q e) (λ d. first-none n (suc i) (omega (arith, miss n i e)) k (omega arith) (omega arith)))

module _ (x : ℕ) where
  usable-nonzero : not (eqb x 0) ≡ true → x ≢ 0
  usable-nonzero e z = let q : false ≡ true = sym (rw (eq-eqb x 0 z)) ∙ e in let w : ◌≡◌ {A = ℕ} 0 1 = cc in omega arith

  unusable-zero : not (eqb x 0) ≡ false → x ≡ 0
  unusable-zero e =
      at-or x 0 (λ z. z)
      (λ d. let q : true ≡ false = sym (rw (ne_eqb x 0 d)) ∙ e in let w : ◌≡◌ {A = ℕ} 0 1 = cc in absurd (omega arith))

module _ (rows cols c : ℕ) (l : List ℕ) (h : c ≤ rows) where
  pub pivot-from : c ≤ pivot_row rows cols c l
  unfolding pivot_row
  pivot-from = first-from (usable cols c l) (rows - c) c

  pub pivot-usable : pivot_row rows cols c l < rows → entry cols l (pivot_row rows cols c l) c ≢ 0
  unfolding pivot_row
  pivot-usable g = usable-nonzero _ (first_passes (usable cols c l) (rows - c) c (omega arith))

  pub pivot-none : rows ≤ pivot_row rows cols c l → (i : ℕ) → c ≤ i → i < rows → entry cols l i c ≡ 0
  unfolding pivot_row
  pivot-none g i a b = unusable-zero _ (first-none (usable cols c l) (rows - c) c (omega arith) i a (omega arith))
