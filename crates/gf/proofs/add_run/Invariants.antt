-- The first i elements are done, and the rest is as it was.
use Rattle.std.proofs.Common.{◌≡◌}
use Rattle.gf.specs.Runs.{add_run}
use Rattle.gf.specs.Ten.{ten}
use Rattle.gf.proofs.add_run.Given as goal

abbrev pub invariant-loop-i : goal.invariant-loop-i
invariant-loop-i l = l.s ≡ add_run ten l.dst l.src l.i l.f l.fn.s
