use Rattle.gf.proofs.Turns.{scale-none, scale-more}
use Rattle.gf.proofs.scale_run.Goals as goal

pub loop-i-init : goal.loop-i-init
loop-i-init c = search scale-none

pub loop-i-preserved : goal.loop-i-preserved
loop-i-preserved c = search (scale-more, c.combine.ensures)
