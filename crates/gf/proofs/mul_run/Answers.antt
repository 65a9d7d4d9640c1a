use Rattle.gf.proofs.Turns.{mul-none, mul-more}
use Rattle.gf.proofs.mul_run.Goals as goal

pub loop-i-init : goal.loop-i-init
loop-i-init c = search mul-none

pub loop-i-preserved : goal.loop-i-preserved
loop-i-preserved c = search (mul-more, c.combine.ensures)
