use Rattle.std.proofs.Common.{refl}
use Rattle.code.proofs.Collecting.{collected-none, collected-more}
use Rattle.code.proofs.places.collect.Goals as goal

pub loop-p-init : goal.loop-p-init
loop-p-init c = collected-none _ _

pub loop-p-preserved : goal.loop-p-preserved
loop-p-preserved c = collected-more _ _ _ _ _ c.loop-p.invariant refl _ _ c.keep-count.ensures
