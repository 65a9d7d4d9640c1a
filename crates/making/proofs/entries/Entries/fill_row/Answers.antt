use Rattle.std.proofs.Common.{◌∙◌, arith}
use Rattle.making.proofs.Filled.{tab_of}
use Rattle.making.proofs.entries.Entries.fill_row.Goals as goal

pub returns : goal.returns
returns c = tab_of _ _ _ (c.loop-j.auto.row ∙ c.requires.columns) (λ q h. c.loop-j.invariant q (omega arith))
