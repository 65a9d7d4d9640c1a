use Rattle.std.proofs.Common.{◌+◌, arith}
use Rattle.making.proofs.Filled.{listed_none, listed_step, row_fits}
use Rattle.making.proofs.entries.Entries.fill.Goals as goal

pub loop-i-init : goal.loop-i-init
loop-i-init c = listed_none _ _ _

pub loop-i-preserved : goal.loop-i-preserved
loop-i-preserved c =
    let s = c.args.self.now.random.parameters.set in
    listed_step _ _ _ c.loop-i.matrix _ _ c.loop-i.invariant (omega (arith, row_fits c.loop-i.i s.k (s.n + s.w) c.loop-i-test.true, c.loop-i.auto.matrix, c.requires)) c.fill_row.ensures
