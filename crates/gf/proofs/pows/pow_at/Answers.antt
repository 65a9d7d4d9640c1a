-- Each entry of the table is the previous times α: one computed test, which the step rule carries to the entry i.
use Rattle.gf.proofs.Tables.{steps, step-rule}
use Rattle.gf.specs.Field.{times_x}
use Rattle.gf.proofs.pows.pow_at.Goals as goal

pub returns : goal.returns
unfolding steps times_x
returns c = search step-rule
