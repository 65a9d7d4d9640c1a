-- The sums of the numbers from place i on.
use Rattle.std.proofs.Common.{}
use Rattle.code.proofs.Horner.{SumsFrom}
use Rattle.gf.specs.Ten.{ten}
use Rattle.code.proofs.sums.power_sums.Given as goal

abbrev pub invariant-loop-i : goal.invariant-loop-i
invariant-loop-i l = SumsFrom ten l.word l.from l.i l.sums
