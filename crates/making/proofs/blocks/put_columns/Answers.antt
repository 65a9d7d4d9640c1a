use Rattle.std.proofs.Common.{◌∙◌, arith}
use Rattle.making.proofs.Columns.{columns_none, columns_step}
use Rattle.making.proofs.blocks.put_columns.Goals as goal

pub loop-i-init : goal.loop-i-init
loop-i-init c = search columns_none

pub loop-i-preserved : goal.loop-i-preserved
loop-i-preserved c =
    columns_step c.args.blocks.now c.loop-i.i c.loop-i.columns _ _ c.loop-i.invariant (omega (arith, c.requires.blocks)) (omega (arith, c.loop-i.auto.columns, c.requires.columns))
    (c.copy_from_slice.ensures.after ∙ c.first_column_of_inverse-column.ensures ∙ rw (c.at.ensures.a, c.at.ensures.b, c.at.ensures.c, c.at.ensures.d))
