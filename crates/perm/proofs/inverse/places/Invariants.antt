-- Each entry passed is below the length.
use Rattle.std.proofs.Common.{ℕ, ◌<◌, length, get_or}
use Rattle.perm.proofs.inverse.places.Given as goal

abbrev pub invariant-loop-i : goal.invariant-loop-i
invariant-loop-i g l = (k : ℕ) → k < l.i → get_or (g.P.Entries.list l.p) k 0 < length (g.P.Entries.list l.p)
