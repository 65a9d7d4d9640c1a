-- Two numbers exchanged: done twice, nothing has changed. The swap of two places of a list, and the pigeonhole argument, stand on it.
use mathlib.Core.Path.{◌≡◌, refl, sym, ◌∙◌, ap}
use mathlib.Core.Logic.{◌≢◌}
use Prim.Native.Nat.{ℕ, zero, suc, ◌<◌}
use native.Mathlib.Decide.{ℕ_discrete}
use native.Mathlib.Omega.{arith}
use lib.Dec.{eqb}
use borrow.Author.Tests.{eq-eqb, ne_eqb}
use lib.Arith.{lt_of_le-ne}
use Rattle.lists.specs.Loops.{pick}

-- i and j exchanged, and any other number as it is
pub exchange : ℕ → ℕ → ℕ → ℕ
exchange i j k = pick (eqb k j) i (pick (eqb k i) j k)

module _ (i j k : ℕ) where
  pub exchange-right : k ≡ j → exchange i j k ≡ i
  unfolding exchange
  exchange-right e = rw (eq-eqb k j e)

  pub exchange-left : k ≢ j → k ≡ i → exchange i j k ≡ j
  unfolding exchange
  exchange-left n e = rw (ne_eqb k j n, eq-eqb k i e)

  pub exchange-other : k ≢ j → k ≢ i → exchange i j k ≡ k
  unfolding exchange
  exchange-other n m = rw (ne_eqb k j n, ne_eqb k i m)

  -- k is j, or else i, or neither
  pub by_cases : (P : Type 0) → (k ≡ j → P) → (k ≢ j → k ≡ i → P) → (k ≢ j → k ≢ i → P) → P
  by_cases P f g h = go (ℕ_discrete k j) (ℕ_discrete k i)
    where
      go : Dec (k ≡ j) → Dec (k ≡ i) → P
      go (yes e) d = f e
      go (no n) (yes e) = g n e
      go (no n) (no m) = h n m

pub exchange-lt : (i j k n : ℕ) → i < n → j < n → k < n → exchange i j k < n
exchange-lt i j k n hi hj hk =
    by_cases i j k (exchange i j k < n) (λ e. rw (exchange-right i j k e) hi) (λ a e. rw (exchange-left i j k a e) hj) (λ a b. rw (exchange-other i j k a b) hk)

pub exchange-twice : (i j k : ℕ) → exchange i j (exchange i j k) ≡ k
exchange-twice i j k =
    by_cases i j k (exchange i j (exchange i j k) ≡ k)
    (λ e.
    rw (exchange-right i j k e)
    (by_cases i j i (exchange i j i ≡ k) (λ f. exchange-right i j i f ∙ f ∙ sym e) (λ a f. exchange-left i j i a f ∙ sym e) (λ a b. absurd (b refl))))
    (λ a e. rw (exchange-left i j k a e) (exchange-right i j j refl ∙ sym e))
    (λ a b. rw (exchange-other i j k a b) (exchange-other i j k a b))

-- ---- pigeonhole: n numbers below n that differ are all numbers below n
abbrev Low : (ℕ → ℕ) → ℕ → Type 0
Low f n = (i : ℕ) → i < n → f i < n

abbrev Distinct : (ℕ → ℕ) → ℕ → Type 0
Distinct f n = (i j : ℕ) → i < n → j < n → f i ≡ f j → i ≡ j

abbrev Hit : (ℕ → ℕ) → ℕ → ℕ → Type 0
Hit f n y = (i : ℕ) × (i < n) × (f i ≡ y)

module _ (f : ℕ → ℕ) (n : ℕ) (low : Low f (suc n)) (one : Distinct f (suc n)) where
  -- with n and f n exchanged among the values, the last value is n itself
  g : ℕ → ℕ
  g i = exchange (f n) n (f i)

  g-back : (i : ℕ) → exchange (f n) n (g i) ≡ f i
  unfolding g
  g-back i = exchange-twice (f n) n (f i)

  g-last : g n ≡ n
  unfolding g
  g-last = by_cases (f n) n (f n) (exchange (f n) n (f n) ≡ n) (λ e. exchange-right (f n) n (f n) e ∙ e) (λ a e. exchange-left (f n) n (f n) a e) (λ a b. absurd (b refl))

  g-one : Distinct g (suc n)
  g-one i j hi hj e = one i j hi hj (sym (g-back i) ∙ ap (exchange (f n) n) e ∙ g-back j)

  g-low : Low g n
  unfolding g
  g-low i h =
      let b : g i < suc n = exchange-lt (f n) n (f i) (suc n) (low n (omega arith)) (omega arith) (low i (omega arith)) in
      let d : g i ≢ n = λ e. (let z : i ≡ n = g-one i n (omega arith) (omega arith) (e ∙ sym g-last) in omega arith) in
      lt_of_le-ne (omega arith) d

  hit-step : ((y : ℕ) → y < n → Hit g n y) → (y : ℕ) → y < suc n → Hit f (suc n) y
  hit-step rec y h = go (ℕ_discrete y (f n))
    where
      go : Dec (y ≡ f n) → Hit f (suc n) y
      go (yes e) = (n, omega arith, sym e)
      go (no d) = found (rec (exchange (f n) n y) below)
        where
          below : exchange (f n) n y < n
          below =
              lt_of_le-ne (let b : exchange (f n) n y < suc n = exchange-lt (f n) n y (suc n) (low n (omega arith)) (omega arith) h in omega arith)
              λ e. d (sym (exchange-twice (f n) n y) ∙ ap (exchange (f n) n) e ∙ exchange-right (f n) n n refl)

          found : Hit g n (exchange (f n) n y) → Hit f (suc n) y
          found (i, l, e) = (i, omega arith, sym (g-back i) ∙ ap (exchange (f n) n) e ∙ exchange-twice (f n) n y)

pub pigeonhole : (n : ℕ) (f : ℕ → ℕ) → Low f n → Distinct f n → (y : ℕ) → y < n → Hit f n y
pigeonhole zero f low one y h = absurd (omega arith)
pigeonhole (suc n) f low one y h =
    hit-step f n low one (pigeonhole n (g f n low one) (g-low f n low one) (λ i j hi hj. g-one f n low one i j (omega arith) (omega arith))) y h
