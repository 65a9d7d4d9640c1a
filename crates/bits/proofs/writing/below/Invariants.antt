-- Each element passed is below the limit.
use Rattle.std.proofs.Common.{ℕ, ◌<◌, get_or}
use Rattle.bits.proofs.writing.below.Given as goal

abbrev pub invariant-loop-x : goal.invariant-loop-x
invariant-loop-x l = (k : ℕ) → k < l.x-index → get_or l.s k 0 < l.limit
