-- All that was read is zero.
use Rattle.std.proofs.Common.{◌≡◌}
use Rattle.calls.proofs.stack.read_back.Given as goal

abbrev pub invariant-loop-byte : goal.invariant-loop-byte
invariant-loop-byte l = l.left ≡ 0
