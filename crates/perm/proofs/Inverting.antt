-- Writing q[p[i]] = i for each place i: what q holds then, and that it is the inverse exactly where p is a permutation.
use mathlib.Core.Path.{◌≡◌, refl, ◌∙◌, ap}
use mathlib.Core.Bool.{Bool, true, false}
use mathlib.Core.List.{List}
use Prim.Native.Nat.{ℕ, ◌<◌}
use lib.ListN.{length, get_or}
use Rattle.bits.specs.Bits.{Decided}
use Rattle.bits.proofs.Sixteen.{length-numbers16, numbers16-at}
use Rattle.perm.specs.Perm.{Places, Inverse, Perm, Undoes, Inverts, inverted}
use Rattle.perm.proofs.Permutations.{entries-distinct, entries-low, undoes-inverse}
use Rattle.perm.proofs.Placing.{placed, length-placed, Last, last-placed}

pub length-inverted : (p q : List ℕ) → length (inverted p q) ≡ length q
unfolding inverted
length-inverted p q = length-placed (λ i. get_or p i 0) q (length p)

module _ (p q : List ℕ) (l : length q ≡ length p) (low : Places p) where
  -- distinct entries are undone
  pub distinct-undoes : ((i j : ℕ) → i < length p → j < length p → get_or p i 0 ≡ get_or p j 0 → i ≡ j) → Undoes p (inverted p q)
  unfolding inverted
  distinct-undoes one i h =
      let s : ℕ → ℕ = λ k. get_or p k 0 in
      let v : Last s (placed s q (length p)) (length p) i = last-placed s q (length p) (λ k g. rw l (low k g)) i h in
      one (get_or (placed s q (length p)) (get_or p i 0) 0) i v.below h v.same

  -- what is written for a permutation is its inverse
  pub inverted-inverse : Perm p → Inverse p (inverted p q)
  inverted-inverse perm = undoes-inverse p (inverted p q) (length-inverted p q ∙ l) low (distinct-undoes (entries-distinct p perm))

  -- whether it undoes p says whether p is a permutation
  pub inverts : (r : Bool) (q' : List ℕ) → q' ≡ inverted p q → Decided r (Undoes p q') → Inverts p r q'
  inverts true q' e d = undoes-inverse p q' (ap length e ∙ length-inverted p q ∙ l) low d
  inverts false q' e d = λ perm. d (rw e (distinct-undoes (entries-distinct p perm)))

-- for `using` at a function that inverts a permutation
pub ruleset inverting = (inverted-inverse, entries-low)

-- a list whose entries are places and distinct is a permutation
pub distinct-perm : (p : List ℕ) → Places p → ((i j : ℕ) → i < length p → j < length p → get_or p i 0 ≡ get_or p j 0 → i ≡ j) → Perm p
distinct-perm p low one = (inverted p p, undoes-inverse p (inverted p p) (length-inverted p p) low (distinct-undoes p p refl low one))

-- for `using` at a function that reads a list in a byte string
pub ruleset reading = (length-numbers16, numbers16-at)
