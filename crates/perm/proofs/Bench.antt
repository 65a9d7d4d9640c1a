-- Cases of the shuffle, proved by computing the definitions.
use mathlib.Core.Path.{◌≡◌, refl}
use mathlib.Core.List.{[], ◌∷◌}
use native.Mathlib.Omega.{arith}
use lib.ListN.{get_or}
use Rattle.lists.specs.Loops.{tab, turns}
use Rattle.perm.specs.Shuffle.{identity, swapped, shuffled}
use Rattle.perm.specs.Perm.{Inverse, Perm, inverted}
use Rattle.perm.proofs.Permutations.{entries-low}
use Rattle.perm.proofs.Shuffling.{shuffled-perm}
use Rattle.perm.proofs.Inverting.{inverted-inverse}

-- u = 5, bytes 00 03 00 02: 3 0 2 1 4
pub five : shuffled (0x00 ∷ 0x03 ∷ 0x00 ∷ 0x02 ∷ []) 5 2 ≡ 3 ∷ 0 ∷ 2 ∷ 1 ∷ 4 ∷ []
unfolding shuffled swapped identity tab turns
five = refl

-- its inverse 1 3 2 0 4
pub five-inverse : Inverse (3 ∷ 0 ∷ 2 ∷ 1 ∷ 4 ∷ []) (1 ∷ 3 ∷ 2 ∷ 0 ∷ 4 ∷ [])
unfolding inverted turns
five-inverse =
    let perm : Perm (3 ∷ 0 ∷ 2 ∷ 1 ∷ 4 ∷ []) = rw five at (shuffled-perm (0x00 ∷ 0x03 ∷ 0x00 ∷ 0x02 ∷ []) 5 2 (omega arith)) in
    inverted-inverse (3 ∷ 0 ∷ 2 ∷ 1 ∷ 4 ∷ []) (0 ∷ 0 ∷ 0 ∷ 0 ∷ 0 ∷ []) refl (entries-low _ perm) perm

-- u = 5, bytes 00 07: first entry 2
pub five-first : get_or (shuffled (0x00 ∷ 0x07 ∷ []) 5 1) 0 0 ≡ 2
unfolding shuffled swapped identity tab turns
five-first = refl
