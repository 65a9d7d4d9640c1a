use Rattle.gf.proofs.Turns.{add_none, add-more}
use Rattle.gf.proofs.add_run.Goals as goal

pub loop-i-init : goal.loop-i-init
loop-i-init c = search add_none

pub loop-i-preserved : goal.loop-i-preserved
loop-i-preserved c = search (add-more, c.combine.ensures)
