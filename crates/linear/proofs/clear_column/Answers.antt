-- The rows before row c, and those after it.
use Rattle.linear.proofs.Clearing.{clear_both}
use Rattle.linear.proofs.clear_column.Goals as goal

pub returns : goal.returns
returns c = search clear_both
