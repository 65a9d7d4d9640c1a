use Rattle.std.proofs.Common.{refl}
use Rattle.code.proofs.Settling.{total-none, total-more}
use Rattle.code.proofs.settle.total.Goals as goal

pub loop-x-init : goal.loop-x-init
loop-x-init c = total-none _

pub loop-x-preserved : goal.loop-x-preserved
loop-x-preserved c = total-more _ _ _ _ c.loop-x.invariant refl
