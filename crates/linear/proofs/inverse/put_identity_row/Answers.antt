use Rattle.std.proofs.Common.{rules}
use Rattle.linear.proofs.Beside.{identity-more}
use Rattle.linear.specs.Inverse.{identity_run}
use Rattle.lists.proofs.Loops.{turns-none}
use Rattle.linear.proofs.inverse.put_identity_row.Goals as goal

pub loop-j-init : goal.loop-j-init
loop-j-init c = turns-none _ _

pub loop-j-preserved : goal.loop-j-preserved
loop-j-preserved c = search identity-more

pub returns : goal.returns
unfolding identity_run
returns c = search rules
