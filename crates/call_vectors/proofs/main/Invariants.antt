-- No more cases agree than there were.
use Rattle.std.proofs.Common.{◌≤◌}
use Rattle.call_vectors.proofs.main.Given as goal

abbrev pub invariant-loop-i : goal.invariant-loop-i
invariant-loop-i l = l.agree ≤ l.i
