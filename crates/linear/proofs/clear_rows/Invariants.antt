-- The rows from `from` up to i are cleared, and the pivot row is as it was.
use Rattle.std.proofs.Common.{}
use Rattle.gf.specs.Ten.{ten}
use Rattle.linear.specs.Columns.{Cleared}
use Rattle.linear.proofs.clear_rows.Given as goal

abbrev pub invariant-loop-i : goal.invariant-loop-i
invariant-loop-i l = Cleared ten l.cols l.c l.from l.i l.fn.m l.ops l.m l.count
