-- The permutations as they are drawn, and the search for a window.
use Rattle.std.proofs.Common.{◌≡◌, refl, sym, ap, ◌∙◌, ℕ, zero, suc, ◌+◌, ◌-◌, ◌*◌, ◌/◌, ◌≤◌, ◌<◌, Bool, true, false, List, length, get_or, take, drop, count_by, nat_le, add-one, arith}
use lib.Dec.{leb}
use lib.ListN.{length-drop}
use lib.Seq.{get_or-take, length-take-le}
use borrow.Author.Tests.{le-leb, lt-leb}
use Rattle.std.proofs.lemmas.List.Sums.{count_by_more_no, count_by_more_yes}
use Rattle.lists.specs.Loops.{pick, turns, first}
use Rattle.lists.proofs.Loops.{first-again, first_found, first-nowhere}
use Rattle.bits.specs.Bits.{bytes_for}
use Rattle.bits.specs.Numbers.{number16}
use Rattle.perm.specs.Shuffle.{shuffled}
use Rattle.sets.specs.declared.Set.{Set}
use Rattle.sets.specs.Valid.{Valid, setup_elements}
use Rattle.scheme.specs.Setup.{permutation1, permutation2, mixed_below, mixed, window}

-- a shuffle of v numbers reads the first 2v bytes alone
shuffled-same : (a b : List ℕ) (u v : ℕ) → ((i : ℕ) → i < v → number16 a i ≡ number16 b i) → shuffled a u v ≡ shuffled b u v
unfolding shuffled turns
shuffled-same a b u zero h = refl
shuffled-same a b u (suc v) h = rw (shuffled-same a b u v (λ i g. h i (omega arith)), h v (omega arith))

shuffled-take : (bytes : List ℕ) (u v : ℕ) → shuffled (take (2 * v) bytes) u v ≡ shuffled bytes u v
shuffled-take bytes u v =
    shuffled-same (take (2 * v) bytes) bytes u v
    (λ i h. rw (get_or-take (2 * v) bytes (2 * i) 0 (omega arith), get_or-take (2 * v) bytes (2 * i + 1) 0 (omega arith)))

-- the shuffle of u places by the u - 1 numbers from a place on
shuffled-part : (random bytes : List ℕ) (at l u : ℕ) → at + 2 * (u - 1) ≤ length random → bytes ≡ take (2 * (u - 1)) (drop at random) → l ≡ u
    → shuffled bytes l (length bytes / 2) ≡ shuffled (drop at random) u (u - 1)
shuffled-part random bytes at l u h e q =
    let long : length (take (2 * (u - 1)) (drop at random)) ≡ 2 * (u - 1) = length-take-le (2 * (u - 1)) (drop at random) (rw length-drop (omega arith)) in
    let half : 2 * (u - 1) / 2 ≡ u - 1 = omega arith in
    rw (e, long, half, q) (shuffled-take (drop at random) u (u - 1))

module _ (s : Set) (random : List ℕ) (v : Valid s) (long : length random ≡ s.random) (bytes : List ℕ) (l : ℕ) where
  pub first_is : l ≡ s.n → bytes ≡ take (2 * (s.n - 1)) (drop (bytes_for s.m (setup_elements s)) random)
      → shuffled bytes l (length bytes / 2) ≡ permutation1 s random
  unfolding permutation1
  first_is q e = shuffled-part random bytes (bytes_for s.m (setup_elements s)) l s.n (omega (arith, v.random_is)) e q

  pub second_is : (p : ℕ) → p < 5 → l ≡ s.n + s.w → bytes ≡ take (2 * (s.n + s.w - 1)) (drop (bytes_for s.m (setup_elements s) + (2 * s.n - 2 + p)) random)
      → shuffled bytes l (length bytes / 2) ≡ permutation2 s random p
  unfolding permutation2
  second_is p h q e = shuffled-part random bytes (bytes_for s.m (setup_elements s) + (2 * s.n - 2 + p)) l (s.n + s.w) (omega (arith, v.random_is, v.code, v.some_k)) e q

-- ---- the count
pub mixed_is : (d k : ℕ) (l : List ℕ) → k ≤ length l → count_by (λ x. nat_le d x) (take k l) ≡ mixed_below d k l
unfolding mixed_below
mixed_is d zero l h = refl
mixed_is d (suc k) l h = rw (← add-one k) (go (nat_le d (get_or l k 0)) refl (mixed_is d k l (omega arith)))
  where
    go : (t : Bool) → nat_le d (get_or l k 0) ≡ t → count_by (λ x. nat_le d x) (take k l) ≡ mixed_below d k l
        → count_by (λ x. nat_le d x) (take (k + 1) l) ≡ mixed_below d k l + pick (leb d (get_or l k 0)) 1 0
    go true e q = count_by_more_yes (λ x. nat_le d x) l k 0 (omega arith) e ∙ rw (q, e)
    go false e q = count_by_more_no (λ x. nat_le d x) l k 0 (omega arith) e ∙ rw (q, e) (omega arith)

-- ---- the search: the windows before p do not fit
abbrev pub fits : Set → List ℕ → ℕ → Bool
fits s random p = leb (mixed s (permutation2 s random p)) s.u0

pub record Trying (s : Set) (random : List ℕ) (p : ℕ) : Type 0 where
  pub left : window s random ≡ first (fits s random) (5 - p) p

pub trying_none : (s : Set) (random : List ℕ) → Trying s random 0
unfolding window
trying_none s random = record { left = refl }

module _ (s : Set) (random : List ℕ) (p : ℕ) (v : Trying s random p) where
  module _ (lt : p < 5) (l : List ℕ) (u : ℕ) (is : l ≡ permutation2 s random p) (count : u ≡ count_by (λ x. nat_le (s.n - s.w) x) (take s.k l)) (long : s.k ≤ length l) where
    counted : u ≡ mixed s (permutation2 s random p)
    counted = count ∙ mixed_is (s.n - s.w) s.k l long ∙ ap (mixed s) is

    pub trying_more : s.u0 < u → Trying s random (p + 1)
    trying_more h = record { left = first-again (fits s random) 5 p (window s random) v.left lt (lt-leb _ _ (omega (arith, counted))) }

    pub trying_found : u ≤ s.u0 → window s random ≡ p
    trying_found h = sym (first_found (fits s random) 5 p (window s random) v.left lt (le-leb _ _ (omega (arith, counted))))

  pub trying_nowhere : 5 ≤ p → p ≤ 5 → window s random ≡ 5
  trying_nowhere h g = sym (first-nowhere (fits s random) 5 p (window s random) v.left g h)
