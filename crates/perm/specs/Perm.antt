-- Permutations of 0, 1, .. and their inverses (RLCE-KEM specification of September 14, 2017, section 7.8, permu_inv).
use Rattle.std.specs.Prelude.{◌≡◌, Bool, true, false, List, ℕ, ◌<◌, length, get_or, set}
use Rattle.lists.specs.Loops.{turns}

-- each entry of p is below its length: a place of a list as long
abbrev pub Places : List ℕ → Type 0
Places p = (i : ℕ) → i < length p → get_or p i 0 < length p

-- p and q undo each other
pub record Inverse (p q : List ℕ) : Type 0 where
  pub long : length p ≡ length q
  pub low : Places p
  pub low_back : Places q
  pub there : (i : ℕ) → i < length p → get_or q (get_or p i 0) 0 ≡ i
  pub back : (i : ℕ) → i < length p → get_or p (get_or q i 0) 0 ≡ i

-- p is a permutation of 0, 1, .., length p - 1: it has an inverse
abbrev pub Perm : List ℕ → Type 0
Perm p = (q : List ℕ) × Inverse p q

-- for each place i, q[p[i]] = i is written to q
unfoldable pub inverted : List ℕ → List ℕ → List ℕ
inverted p q = turns (λ i q'. set q' (get_or p i 0) i) (length p) q

-- q undoes p
abbrev pub Undoes : List ℕ → List ℕ → Type 0
Undoes p q = (i : ℕ) → i < length p → get_or q (get_or p i 0) 0 ≡ i

-- what `invert` says of p and leaves in q
abbrev pub Inverts : List ℕ → Bool → List ℕ → Type 0
Inverts p true q = Inverse p q
Inverts p false q = Perm p → ⊥
