-- The first i elements are done, and the rest is as it was.
use Rattle.std.proofs.Common.{◌≡◌}
use Rattle.gf.specs.Runs.{mul_run}
use Rattle.gf.specs.Ten.{ten}
use Rattle.gf.proofs.mul_run.Given as goal

abbrev pub invariant-loop-i : goal.invariant-loop-i
invariant-loop-i l = l.s ≡ mul_run ten l.dst l.src l.i l.fn.s
