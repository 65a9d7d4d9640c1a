use Rattle.std.proofs.Common.{rules}
use Rattle.linear.proofs.Steps.{swap-more}
use Rattle.linear.specs.Matrix.{swap_run}
use Rattle.lists.proofs.Loops.{turns-none}
use Rattle.linear.proofs.swap_runs.Goals as goal

pub loop-k-init : goal.loop-k-init
loop-k-init c = turns-none _ _

pub loop-k-preserved : goal.loop-k-preserved
loop-k-preserved c = search (rules, swap-more)

pub returns : goal.returns
unfolding swap_run
returns c = search rules
