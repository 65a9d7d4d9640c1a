use Rattle.linear.proofs.Clearing.{rows_more}
use Rattle.linear.proofs.clear_rows.Goals as goal

pub loop-i-preserved : goal.loop-i-preserved
loop-i-preserved c = search rows_more
