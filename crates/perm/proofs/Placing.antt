-- Place i is written to slot s i, for i below n: what stands in a slot afterwards is the last place that has it.
use mathlib.Core.Path.{◌≡◌, refl, ◌∙◌, ap}
use mathlib.Core.List.{List}
use mathlib.Core.Logic.{◌≢◌}
use Prim.Native.Nat.{ℕ, zero, suc, ◌<◌}
use native.Mathlib.Decide.{ℕ_discrete}
use native.Mathlib.Omega.{arith}
use lib.ListN.{length, get_or, set, length-set}
use lib.Seq.{get_or-set_same, get_or-set_other}
use lib.Arith.{lt_of_le-ne}
use Rattle.lists.specs.Loops.{turns}

module _ (s : ℕ → ℕ) where
  -- the first n turns
  abbrev pub placed : List ℕ → ℕ → List ℕ
  placed q n = turns (λ i q'. set q' (s i) i) n q

  pub length-placed : (q : List ℕ) (n : ℕ) → length (placed q n) ≡ length q
  unfolding turns
  length-placed q zero = refl
  length-placed q (suc n) = length-set (placed q n) (s n) n ∙ length-placed q n

  -- in the slot of k stands a place below n that has the same slot: k itself, or one that came later
  pub record Last (q : List ℕ) (n k : ℕ) : Type 0 where
    pub below : get_or q (s k) 0 < n
    pub same : s (get_or q (s k) 0) ≡ s k

  module _ (q : List ℕ) (n k : ℕ) (low : s n < length q) where
    last-here : s k ≡ s n → Last (set q (s n) n) (suc n) k
    last-here e =
        let r : get_or (set q (s n) n) (s n) 0 ≡ n = get_or-set_same q (s n) n 0 low in
        record { below = rw (e, r) (omega arith); same = rw (e, r) }

    last-before : s k ≢ s n → Last q n k → Last (set q (s n) n) (suc n) k
    last-before d v =
        let r : get_or (set q (s n) n) (s k) 0 ≡ get_or q (s k) 0 = get_or-set_other q (s n) (s k) n 0 d in
        record { below = rw r (omega (arith, v.below)); same = rw r v.same }

    last_more : (k < n → Last q n k) → k < suc n → Last (set q (s n) n) (suc n) k
    last_more rec h = go (ℕ_discrete (s k) (s n))
      where
        go : Dec (s k ≡ s n) → Last (set q (s n) n) (suc n) k
        go (yes e) = last-here e
        go (no d) = last-before d (rec (lt_of_le-ne (omega arith) (λ e. d (ap s e))))

  pub last-placed : (q : List ℕ) (n : ℕ) → ((k : ℕ) → k < n → s k < length q) → (k : ℕ) → k < n → Last (placed q n) n k
  unfolding turns
  last-placed q zero low k g = omega arith
  last-placed q (suc n) low k g =
      last_more (placed q n) n k (rw length-placed (low n (omega arith))) (last-placed q n (λ j h. low j (omega arith)) k) g
