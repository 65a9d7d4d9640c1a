-- Rows p and c are zero before column c, and placing and scaling keep it so.
use Rattle.linear.proofs.Keeps.{lead-place}
use Rattle.linear.proofs.Steps.{row_within, reduce-does}
use Rattle.linear.proofs.reduce_column.Goals as goal

pub scale_pivot-b-requires-clause-fits : goal.scale_pivot-b-requires-clause-fits
scale_pivot-b-requires-clause-fits c = row_within _ _ _ _ _ c.requires.row c.requires.reduced.matrix.fits c.place_pivot-a.auto.m

pub scale_pivot-b-requires-clause-lead : goal.scale_pivot-b-requires-clause-lead
scale_pivot-b-requires-clause-lead c = search lead-place

pub returns : goal.returns
returns c = search reduce-does
