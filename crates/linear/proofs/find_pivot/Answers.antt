use Rattle.std.proofs.Common.{rules, arith}
use Rattle.linear.proofs.Steps.{usable-true, usable-false}
use Rattle.linear.specs.Elimination.{pivot_row}
use Rattle.lists.proofs.Loops.{first-again, first_found, first-nowhere}
use Rattle.linear.proofs.find_pivot.Goals as goal

pub returns-then-at-ne0-clause-found : goal.returns-then-at-ne0-clause-found
returns-then-at-ne0-clause-found c = search (first_found, usable-true)

pub loop-i-init : goal.loop-i-init
unfolding pivot_row
loop-i-init c = search rules

pub loop-i-preserved : goal.loop-i-preserved
loop-i-preserved c = search (first-again, usable-false)

pub returns-clause-none : goal.returns-clause-none
returns-clause-none c = first-nowhere _ c.args.rows c.loop-i.i _ c.loop-i.invariant (omega arith) (omega arith)
