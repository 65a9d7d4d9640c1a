use Rattle.std.proofs.Common.{rules}
use Rattle.linear.proofs.Beside.{beside-more}
use Rattle.linear.specs.Inverse.{beside}
use Rattle.lists.proofs.Loops.{turns-none}
use Rattle.linear.proofs.inverse.put_identity.Goals as goal

pub loop-i-init : goal.loop-i-init
loop-i-init c = turns-none _ _

pub loop-i-preserved : goal.loop-i-preserved
loop-i-preserved c = search beside-more

pub returns : goal.returns
unfolding beside
returns c = search rules
