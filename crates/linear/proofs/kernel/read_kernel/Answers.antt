use Rattle.std.proofs.Common.{arith}
use Rattle.lists.proofs.Tables.{tab-none, tab-more}
use Rattle.linear.proofs.kernel.read_kernel.Goals as goal

pub loop-j-init : goal.loop-j-init
loop-j-init c = search tab-none

pub loop-j-preserved : goal.loop-j-preserved
loop-j-preserved c = tab-more _ _ _ _ c.loop-j.invariant c.loop-j.auto.v _ (omega arith) c.kernel_at.ensures
