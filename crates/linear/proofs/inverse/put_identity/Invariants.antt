-- The rows below i are in place.
use Rattle.std.proofs.Common.{◌≡◌}
use Rattle.linear.specs.Inverse.{beside_row}
use Rattle.lists.specs.Loops.{turns}
use Rattle.linear.proofs.inverse.put_identity.Given as goal

abbrev pub invariant-loop-i : goal.invariant-loop-i
invariant-loop-i l = l.m ≡ turns (beside_row l.n) l.i l.fn.m
