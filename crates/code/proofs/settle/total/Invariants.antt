-- The sum of the numbers so far.
use Rattle.std.proofs.Common.{◌≡◌, get_or}
use Rattle.code.specs.Stages.{total}
use Rattle.code.proofs.settle.total.Given as goal

abbrev pub invariant-loop-x : goal.invariant-loop-x
invariant-loop-x l = l.sum ≡ total l.x-index (λ k. get_or l.values k 0)
