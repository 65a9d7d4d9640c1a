-- The coefficients of the product of the first i - 1 factors stand there, with zeros after them.
use Rattle.std.proofs.Common.{◌-◌}
use Rattle.code.proofs.Coefficients.{Holds}
use Rattle.code.specs.Generator.{generator}
use Rattle.gf.specs.Ten.{ten}
use Rattle.code.proofs.generator.Given as goal

abbrev pub invariant-loop-i : goal.invariant-loop-i
invariant-loop-i l = Holds (generator ten (l.i - 1)) l.out
