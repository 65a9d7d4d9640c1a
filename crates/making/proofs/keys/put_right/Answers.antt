use Rattle.std.proofs.Common.{◌∙◌, ◌-◌, arith}
use Rattle.making.proofs.Filled.{listed_none, listed_step, row_fits}
use Rattle.making.proofs.KeyLaws.{right_row}
use Rattle.making.proofs.keys.put_right.Goals as goal

pub loop-i-init : goal.loop-i-init
loop-i-init c = listed_none _ _ _

pub loop-i-preserved : goal.loop-i-preserved
loop-i-preserved c =
    let a = c.args in
    listed_step _ _ _ c.loop-i.ge _ _ c.loop-i.invariant (omega (arith, row_fits c.loop-i.i a.k (a.u - a.k) c.loop-i-test.true, c.loop-i.auto.ge, c.requires.ge))
    (c.copy_from_slice.ensures.after ∙ right_row a.k a.u c.loop-i.i a.matrix.now c.requires.columns (omega (arith, row_fits c.loop-i.i a.k a.u c.loop-i-test.true, c.requires.matrix)))
