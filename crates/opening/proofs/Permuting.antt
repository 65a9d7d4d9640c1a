-- The inverses of a key's lists.
use mathlib.Core.Path.{◌≡◌}
use mathlib.Core.Bool.{Bool, true, false, false≢true}
use mathlib.Core.List.{List}
use Prim.Native.Nat.{ℕ}
use lib.ListN.{length, replicate, length-replicate}
use Rattle.perm.specs.Perm.{Inverse, Perm, Inverts}
use Rattle.perm.proofs.Permutations.{inverse-unique, entries-low}
use Rattle.perm.proofs.Inverting.{inverted-inverse}
use Rattle.sets.specs.declared.Set.{Set}
use Rattle.scheme.specs.Lists.{inverse_of}
use Rattle.scheme.specs.Keys.{WellFormed, read}
use Rattle.opening.specs.Given.{Checked}

pub inverse-of : (p : List ℕ) → Perm p → Inverse p (inverse_of p)
inverse-of p perm = inverted-inverse p (replicate (length p) 0) (length-replicate (length p) 0) (entries-low p perm) perm

-- what was written is the inverse
pub inverse_found : (p q list : List ℕ) (r : Bool) → Inverts p r q → r ≡ true → p ≡ list → q ≡ inverse_of list
inverse_found p q list true v e f = rw f at (inverse-unique p q (inverse_of p) v (inverse-of p (q, v)))
inverse_found p q list false v e f = absurd (false≢true e)

pub checked_of : (s : Set) (key : List ℕ) → WellFormed s key → Checked s key
checked_of s key w =
    record { first = inverse-of (read s key).q1 w.first; second = inverse-of (read s key).q2 w.second; nonzero = w.nonzero; spare = w.spare }

pub formed_of : (s : Set) (key : List ℕ) → Checked s key → WellFormed s key
formed_of s key c =
    record { first = (inverse_of (read s key).q1, c.first); second = (inverse_of (read s key).q2, c.second); nonzero = c.nonzero; spare = c.spare }
