-- What is left to eliminate answers what the whole does, and the columns done are those of the identity.
use Rattle.std.proofs.Common.{◌≡◌, ◌≤◌, ◌-◌, ◌*◌}
use Rattle.gf.specs.Ten.{ten}
use Rattle.linear.specs.Columns.{Reduced}
use Rattle.linear.specs.Elimination.{eliminate_from}
use Rattle.linear.proofs.eliminate.Given as goal

abbrev pub invariant-loop-c : goal.invariant-loop-c
invariant-loop-c l = record {
  few : l.ops ≤ 65537 * l.c;
  reduced : Reduced ten l.rows l.cols l.c l.m;
  left : eliminate_from ten l.rows l.cols l.limit 0 l.fn.m 0 ≡ eliminate_from ten l.rows l.cols (l.limit - l.c) l.c l.m l.ops;
}
