-- A swap keeps a permutation a permutation, so a shuffle is one.
use mathlib.Core.Path.{◌≡◌, refl, sym, ◌∙◌}
use mathlib.Core.List.{List}
use Prim.Native.Nat.{ℕ, zero, suc, ◌+◌, ◌-◌, ◌%◌, ◌≤◌, ◌<◌}
use native.Mathlib.Nat.{mod-lt}
use native.Mathlib.Omega.{arith}
use lib.ListN.{length, get_or, set, length-set}
use lib.Seq.{get_or-set_same, get_or-set_other}
use Rattle.lists.specs.Loops.{tab, turns}
use Rattle.lists.proofs.Tables.{length-tab, get_or-tab}
use Rattle.bits.specs.Numbers.{number16}
use Rattle.perm.specs.Shuffle.{identity, swapped, partner, shuffled}
use Rattle.perm.specs.Perm.{Perm}
use Rattle.perm.proofs.Exchange.{exchange, exchange-right, exchange-left, exchange-other, exchange-lt, exchange-twice, by_cases}

pub length-identity : (u : ℕ) → length (identity u) ≡ u
unfolding identity
length-identity u = length-tab u (λ i. i)

pub identity-at : (u i : ℕ) → i < u → get_or (identity u) i 0 ≡ i
unfolding identity
identity-at u i h = get_or-tab u (λ i. i) i h

pub length-swapped : (p : List ℕ) (i j : ℕ) → length (swapped p i j) ≡ length p
unfolding swapped
length-swapped p i j = simp length-set

pub swapped_at : (p : List ℕ) (i j k : ℕ) → i < length p → j < length p → get_or (swapped p i j) k 0 ≡ get_or p (exchange i j k) 0
unfolding swapped
swapped_at p i j k hi hj =
    by_cases i j k (get_or (set (set p i (get_or p j 0)) j (get_or p i 0)) k 0 ≡ get_or p (exchange i j k) 0)
    (λ e. rw (exchange-right i j k e, e) (get_or-set_same (set p i (get_or p j 0)) j (get_or p i 0) 0 (simp length-set hj)))
    (λ a e. rw (exchange-left i j k a e) (get_or-set_other (set p i (get_or p j 0)) j k (get_or p i 0) 0 a ∙ rw e (get_or-set_same p i (get_or p j 0) 0 hi)))
    (λ a b. rw (exchange-other i j k a b) (get_or-set_other (set p i (get_or p j 0)) j k (get_or p i 0) 0 a ∙ get_or-set_other p i k (get_or p j 0) 0 b))

pub identity-perm : (u : ℕ) → Perm (identity u)
identity-perm u =
    let at : (i : ℕ) → i < length (identity u) → get_or (identity u) i 0 ≡ i = λ i h. identity-at u i (rw length-identity at h) in (
      identity u,
      record {
        long = refl;
        low = λ i h. rw (at i h) h;
        low_back = λ i h. rw (at i h) h;
        there = λ i h. rw (at i h) (at i h);
        back = λ i h. rw (at i h) (at i h);
      },
    )

pub swapped-perm : (p : List ℕ) (i j : ℕ) → i < length p → j < length p → Perm p → Perm (swapped p i j)
swapped-perm p i j hi hj (q, v) =
    let n : ℕ = length p in
    let f : ℕ → ℕ = λ y. exchange i j (get_or q y 0) in
    let at : (k : ℕ) → get_or (swapped p i j) k 0 ≡ get_or p (exchange i j k) 0 = λ k. swapped_at p i j k hi hj in
    let lt : (k : ℕ) → k < n → exchange i j k < n = λ k h. exchange-lt i j k n hi hj h in
    let qlt : (k : ℕ) → k < n → get_or q k 0 < n = λ k h. rw v.long (v.low_back k (rw v.long at h)) in (
      tab n f,
      record {
        long = length-swapped p i j ∙ sym (length-tab n f);
        low = λ k h. let h' : k < n = rw length-swapped at h in rw (at k, length-swapped) (v.low (exchange i j k) (lt k h'));
        low_back = λ k h. let h' : k < n = rw length-tab at h in rw (get_or-tab n f k h', length-tab) (lt (get_or q k 0) (qlt k h'));
        there = λ k h.
            let h' : k < n = rw length-swapped at h in
            rw (at k, get_or-tab n f (get_or p (exchange i j k) 0) (v.low (exchange i j k) (lt k h')), v.there (exchange i j k) (lt k h')) (exchange-twice i j k);
        back = λ k h.
            let h' : k < n = rw length-swapped at h in
            rw (get_or-tab n f k h', at (exchange i j (get_or q k 0)), exchange-twice) (v.back k h');
      },
    )

pub length-shuffled : (bytes : List ℕ) (u v : ℕ) → length (shuffled bytes u v) ≡ u
unfolding shuffled turns
length-shuffled bytes u zero = length-identity u
length-shuffled bytes u (suc v) = length-swapped (shuffled bytes u v) v (partner bytes u v) ∙ length-shuffled bytes u v

-- the place that is swapped with is one of the list
pub partner-lt : (s u i : ℕ) → i < u → i + s % (u - i) < u
partner-lt s u i h = omega (arith, mod-lt s {m = u - i} (omega arith))

-- a shuffle is a permutation
pub shuffled-perm : (bytes : List ℕ) (u v : ℕ) → v ≤ u → Perm (shuffled bytes u v)
unfolding shuffled turns
shuffled-perm bytes u zero h = identity-perm u
shuffled-perm bytes u (suc v) h =
    swapped-perm (shuffled bytes u v) v (partner bytes u v) (rw length-shuffled h) (rw length-shuffled (partner-lt (number16 bytes v) u v h))
    (shuffled-perm bytes u v (omega arith))
