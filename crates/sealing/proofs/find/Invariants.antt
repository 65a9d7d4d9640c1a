-- What is left to search answers what the whole does, in the rooms of the same set.
use Rattle.std.proofs.Common.{◌≡◌, ◌-◌, ◌/◌, length}
use Rattle.lists.specs.Loops.{first}
use Rattle.scheme.specs.Sealing.{block_at, fits, first_fitting}
use Rattle.sealing.proofs.find.Given as goal

abbrev pub invariant-loop-b : goal.invariant-loop-b
invariant-loop-b l =
    (l.rooms.parameters ≡ l.fn.rooms.parameters)
    × (first_fitting l.fn.rooms.parameters.set l.msg l.random
    ≡ first (λ i. fits l.fn.rooms.parameters.set l.msg (block_at l.fn.rooms.parameters.set l.random i)) (length l.random / l.fn.rooms.parameters.set.block - l.b) l.b)
