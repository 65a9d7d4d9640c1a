-- The coefficients from j on are done, the others as they were.
use Rattle.std.proofs.Common.{◌-◌}
use Rattle.code.proofs.Coefficients.{Passed}
use Rattle.gf.specs.Ten.{ten}
use Rattle.code.proofs.root.times_root.Given as goal

abbrev pub invariant-loop-j : goal.invariant-loop-j
invariant-loop-j l = Passed ten l.a (l.j - 1) l.fn.out l.out
