-- The search for the first block that fits: what is left to search answers what the whole does.
use mathlib.Core.Path.{◌≡◌, refl, sym, ap, ◌∙◌}
use mathlib.Core.Bool.{Bool, true, false}
use mathlib.Core.List.{List}
use Prim.Native.Nat.{ℕ, zero, suc, ◌+◌, ◌-◌, ◌*◌, ◌/◌, ◌≤◌, ◌<◌}
use native.Mathlib.Nat.{add-sub_cancel_left, sub-zero, mul-div-le, mul-le-mul_left, mul-add, mul-one}
use native.Mathlib.Omega.{arith}
use lib.ListN.{length}
use Rattle.lists.specs.Loops.{first}
use Rattle.lists.specs.Parts.{part}
use Rattle.lists.proofs.Loops.{first-again, first_found, first-nowhere}
use Rattle.sets.specs.declared.Set.{Set}
use Rattle.scheme.specs.Sealing.{block_at, fits, first_fitting}
use Rattle.std.specs.Prelude.{Some}
use Rattle.sealing.specs.Steps.{Drawn}
use Rattle.sealing.specs.Seals.{Finds}
use Rattle.sealing.proofs.Selections.{at-or}

-- what is lent from a start to an end
lent : (a n : ℕ) (l : List ℕ) → part a (a + n - a) l ≡ part a n l
lent a n l = ap (λ (i : ℕ). part a i l) (add-sub_cancel_left a n)

-- block b lies within the random bytes
pub block_within : (block b n : ℕ) → b < n / block → block * b + block ≤ n
block_within block b n h =
    let g : block * (b + 1) ≤ block * (n / block) = mul-le-mul_left block (omega arith) in
    let e : block * (b + 1) ≡ block * b + block = rw (mul-add, mul-one) in
    omega (arith, mul-div-le n block)

pub first-from : (s : Set) (msg random : List ℕ) → first_fitting s msg random ≡ first (λ b. fits s msg (block_at s random b)) (length random / s.block - 0) 0
unfolding first_fitting
first-from s msg random = rw sub-zero

module _ (s : Set) (msg random : List ℕ) (b : ℕ) (left : first_fitting s msg random ≡ first (λ i. fits s msg (block_at s random i)) (length random / s.block - b) b) where
  module _ (h : b < length random / s.block) (r : Bool) (q : r ≡ fits s msg (part (s.block * b) (s.block * b + s.block - s.block * b) random)) where
    answer : r ≡ fits s msg (block_at s random b)
    answer = rw (lent (s.block * b) s.block random) at q

    pub found_here : r ≡ true → (places els : List ℕ) → Drawn s msg (part (s.block * b) (s.block * b + s.block - s.block * b) random) places els
        → Finds s random msg (Some b) places els
    found_here e places els d =
        (first_found (λ i. fits s msg (block_at s random i)) (length random / s.block) b (first_fitting s msg random) left h (sym answer ∙ e), h, rw (lent (s.block * b) s.block random) at d)

    pub found-later : r ≡ false → first_fitting s msg random ≡ first (λ i. fits s msg (block_at s random i)) (length random / s.block - (b + 1)) (b + 1)
    found-later e =
        first-again (λ i. fits s msg (block_at s random i)) (length random / s.block) b (first_fitting s msg random) left h (sym answer ∙ e)

  pub found_nowhere : b ≤ length random / s.block → length random / s.block ≤ b → first_fitting s msg random ≡ length random / s.block
  found_nowhere h g = sym (first-nowhere (λ i. fits s msg (block_at s random i)) (length random / s.block) b (first_fitting s msg random) left h g)

-- ---- what the choice means: every block before it has a zero value, and it has none
by-test : {A : Type 0} (b : Bool) → (b ≡ true → A) → (b ≡ false → A) → A
by-test true f g = f refl
by-test false f g = g refl

first-before : (p : ℕ → Bool) (n i j : ℕ) → i ≤ j → j < first p n i → p j ≡ false
unfolding first
first-before p zero i j h g = absurd (omega arith)
first-before p (suc n) i j h g = step (first-before p n (suc i) j)
  where
    step : (suc i ≤ j → j < first p n (suc i) → p j ≡ false) → p j ≡ false
    step ih =
        by-test (p i)
        (λ y. absurd (let q : j < i = rw y at g in omega arith))
        (λ z. let q : j < first p n (suc i) = rw z at g in at-or j i (λ e. rw e z) (λ d. ih (omega arith) q))

first-there : (p : ℕ → Bool) (n i : ℕ) → first p n i < i + n → p (first p n i) ≡ true
unfolding first
first-there p zero i h = absurd (omega arith)
first-there p (suc n) i h = step (first-there p n (suc i))
  where
    step : (first p n (suc i) < suc i + n → p (first p n (suc i)) ≡ true) → p (first p (suc n) i) ≡ true
    step ih = by-test (p i) (λ y. rw (y, y)) (λ z. let q : first p n (suc i) < i + suc n = rw z at h in rw z (ih (omega arith)))

module _ (s : Set) (msg random : List ℕ) where
  pub passed_over : (b : ℕ) → b < first_fitting s msg random → fits s msg (block_at s random b) ≡ false
  unfolding first_fitting
  passed_over b h = first-before (λ i. fits s msg (block_at s random i)) (length random / s.block) 0 b (omega arith) h

  pub first_fits : first_fitting s msg random < length random / s.block → fits s msg (block_at s random (first_fitting s msg random)) ≡ true
  unfolding first_fitting
  first_fits h = first-there (λ i. fits s msg (block_at s random i)) (length random / s.block) 0 (omega arith)
