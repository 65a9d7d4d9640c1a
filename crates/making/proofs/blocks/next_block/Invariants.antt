-- The search goes on among the rest.
use Rattle.std.proofs.Common.{length}
use Rattle.making.proofs.Searching.{Skipped}
use Rattle.making.proofs.blocks.next_block.Given as goal

abbrev pub invariant-loop-rest : goal.invariant-loop-rest
invariant-loop-rest l = Skipped l.elements l.rest

abbrev pub decreases-loop-rest : goal.decreases-loop-rest
decreases-loop-rest l = length l.rest
