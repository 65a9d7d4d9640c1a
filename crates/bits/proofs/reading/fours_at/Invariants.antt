-- Before each turn the first 4 j elements are written.
use Rattle.std.proofs.Common.{◌*◌}
use Rattle.bits.specs.Steps.{Begun}
use Rattle.bits.proofs.reading.fours_at.Given as goal

abbrev pub invariant-loop-j : goal.invariant-loop-j
invariant-loop-j l = Begun 10 l.s (8 * l.q) (4 * l.j) l.out
