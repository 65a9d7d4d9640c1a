-- What is left to search answers what the whole does.
use Rattle.std.proofs.Common.{◌≡◌, ◌-◌}
use Rattle.linear.specs.Elimination.{usable, pivot_row}
use Rattle.lists.specs.Loops.{first}
use Rattle.linear.proofs.find_pivot.Given as goal

abbrev pub invariant-loop-i : goal.invariant-loop-i
invariant-loop-i l = pivot_row l.rows l.cols l.c l.m ≡ first (usable l.cols l.c l.m) (l.rows - l.i) l.i
