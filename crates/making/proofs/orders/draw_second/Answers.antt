use Rattle.std.proofs.Common.{◌∙◌, arith}
use Rattle.making.proofs.Shuffles.{second_is, trying_none, trying_more, trying_found, trying_nowhere}
use Rattle.making.proofs.orders.draw_second.Goals as goal

pub loop-p-init : goal.loop-p-init
loop-p-init c = search trying_none

pub returns-then-mixed_below-set-clause-first : goal.returns-then-mixed_below-set-clause-first
returns-then-mixed_below-set-clause-first c =
    let r = c.args.random.now in
    trying_found _ _ _ c.loop-p.invariant c.loop-p-test.true c.shuffle.new.p _
    (c.shuffle.ensures ∙ second_is r.parameters.set r.bytes.now r.parameters.valid r.whole _ _ _ c.loop-p-test.true (c.loop-p.auto.order ∙ c.requires) c.for_second.ensures)
    c.mixed_below.ensures (omega (arith, r.parameters.valid.room)) c.if-mixed_below-set.true

pub returns-then-mixed_below-set-clause-order : goal.returns-then-mixed_below-set-clause-order
returns-then-mixed_below-set-clause-order c =
    let r = c.args.random.now in
    c.shuffle.ensures ∙ second_is r.parameters.set r.bytes.now r.parameters.valid r.whole _ _ _ c.loop-p-test.true (c.loop-p.auto.order ∙ c.requires) c.for_second.ensures

pub loop-p-preserved : goal.loop-p-preserved
loop-p-preserved c =
    let r = c.args.random.now in
    trying_more _ _ _ c.loop-p.invariant c.loop-p-test.true c.shuffle.new.p _
    (c.shuffle.ensures ∙ second_is r.parameters.set r.bytes.now r.parameters.valid r.whole _ _ _ c.loop-p-test.true (c.loop-p.auto.order ∙ c.requires) c.for_second.ensures)
    c.mixed_below.ensures (omega (arith, r.parameters.valid.room)) c.if-mixed_below-set.false

pub returns-clause-none : goal.returns-clause-none
returns-clause-none c = trying_nowhere _ _ _ c.loop-p.invariant (omega arith) (omega arith)
