-- The first rows are added, and the next stands at the bit place.
use Rattle.std.proofs.Common.{◌≡◌, ◌+◌, ◌*◌, length}
use Rattle.bits.specs.Bits.{elements_at}
use Rattle.sealing.specs.Steps.{Summed}
use Rattle.sealing.proofs.word.encode.Given as goal

abbrev pub invariant-loop-x : goal.invariant-loop-x
invariant-loop-x l =
    (l.place ≡ 8 + l.m * (l.x-index * length l.fn.row))
    × Summed (elements_at (length l.vector * length l.fn.row) l.m l.key 8) l.vector (length l.fn.row) l.x-index l.sums
