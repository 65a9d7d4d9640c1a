-- Laws of loops. Their premises are what a loop's invariant and tests give, so that `search LAW` finds them.
use mathlib.Core.Path.{◌≡◌, refl, sym, ◌∙◌}
use mathlib.Core.Bool.{Bool, true, false}
use Prim.Native.Nat.{ℕ, suc, ◌+◌, ◌-◌, ◌<◌, ◌≤◌}
use native.Mathlib.Numerals.{add-one}
use native.Mathlib.Omega.{arith}
use Rattle.lists.specs.Loops.{turns, first}

-- ---- a loop that runs to its end: its invariant is y ≡ turns step k x
module _ {A : Type 0} (step : ℕ → A → A) where
  pub turns-none : (x : A) → x ≡ turns step 0 x
  unfolding turns
  turns-none x = refl

  pub turns_more : (n : ℕ) (x y : A) → y ≡ turns step n x → step n y ≡ turns step (n + 1) x
  unfolding turns
  turns_more n x y e = rw (add-one n, e)

  pub turns-end : (n k : ℕ) (x y : A) → y ≡ turns step k x → k ≤ n → n ≤ k → y ≡ turns step n x
  turns-end n k x y e h g = let q : k ≡ n = omega arith in rw q at e

-- for `using` at a function whose loop makes these turns
pub ruleset turning = (turns-none, turns_more, turns-end)

pub left-suc : (n i : ℕ) → i < n → n - i ≡ suc (n - (i + 1))
left-suc n i h = omega arith

-- ---- a search. Its invariant: what is left to search answers what the whole does
module _ (p : ℕ → Bool) (n i whole : ℕ) (left : whole ≡ first p (n - i) i) where
  pub first-again : i < n → p i ≡ false → whole ≡ first p (n - (i + 1)) (i + 1)
  unfolding first
  first-again h miss = left ∙ rw (left-suc n i h, miss, add-one i)

  pub first_found : i < n → p i ≡ true → i ≡ whole
  unfolding first
  first_found h hit = sym (left ∙ rw (left-suc n i h, hit))

  pub first-nowhere : i ≤ n → n ≤ i → n ≡ whole
  unfolding first
  first-nowhere h g =
      let z : n - i ≡ 0 = omega arith in
      let q : i ≡ n = omega arith in
      sym (left ∙ rw z q)
