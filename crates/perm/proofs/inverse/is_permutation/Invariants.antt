-- In the windows passed each entry stands once; an entry is below the length, so it is in one of them.
use Rattle.std.proofs.Common.{ℕ, ◌<◌}
use Rattle.perm.specs.Window.{Once}
use Rattle.perm.proofs.inverse.is_permutation.Given as goal

abbrev pub invariant-loop-b : goal.invariant-loop-b
invariant-loop-b l = (k : ℕ) → k < l.b → Once k l.p
