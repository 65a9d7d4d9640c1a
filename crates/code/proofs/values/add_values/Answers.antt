use Rattle.std.proofs.Common.{arith}
use Rattle.code.proofs.Kernels.{added_none, added_more}
use Rattle.code.proofs.values.add_values.Goals as goal

pub loop-k-init : goal.loop-k-init
loop-k-init c = added_none _ _ _

pub loop-k-preserved : goal.loop-k-preserved
loop-k-preserved c =
    let l = c.loop-k in
    added_more _ _ _ _ _ l.invariant (omega (arith, c.requires.below l.k c.loop-k-test.true, l.auto.word)) (λ i h. c.requires.rising i l.k h c.loop-k-test.true)
