use Rattle.std.proofs.Common.{◌∙◌, sym, arith, length}
use lib.Seq.{get_or-drop}
use Rattle.scheme.specs.Setup.{drawn}
use Rattle.making.proofs.Drawn.{keep_none, keep_zero, keep_more, keep_end, drawn_more}
use Rattle.making.proofs.random.Random.keep_non_zero.Goals as goal

pub loop-i-init : goal.loop-i-init
loop-i-init c = search keep_none

pub returns-then-found-kept-clause-count : goal.returns-then-found-kept-clause-count
returns-then-found-kept-clause-count c = (keep_end _ _ _ _ c.loop-i.invariant c.args.count (length c.args.kept.now) c.loop-i.auto.kept (omega arith) (λ h. omega arith)).0

pub returns-then-found-kept-clause-kept : goal.returns-then-found-kept-clause-kept
returns-then-found-kept-clause-kept c = (keep_end _ _ _ _ c.loop-i.invariant c.args.count (length c.args.kept.now) c.loop-i.auto.kept (omega arith) (λ h. omega arith)).1

pub loop-i-preserved-then-x-eq0 : goal.loop-i-preserved-then-x-eq0
loop-i-preserved-then-x-eq0 c =
    let r = c.args.self.now in
    keep_zero _ _ _ _ c.loop-i.invariant (drawn_more r.parameters.set r.bytes.now r.parameters.valid r.whole c.args.from c.args.count _ c.requires c.loop-i-test.true)
    (get_or-drop c.args.from (drawn r.parameters.set r.bytes.now) c.loop-i.i 0 ∙ sym c.element-x.ensures ∙ c.if-x-eq0.true)

pub loop-i-preserved : goal.loop-i-preserved
loop-i-preserved c =
    let r = c.args.self.now in
    keep_more _ _ _ _ c.loop-i.invariant (drawn_more r.parameters.set r.bytes.now r.parameters.valid r.whole c.args.from c.args.count _ c.requires c.loop-i-test.true)
    c.element-x.result (c.element-x.ensures ∙ sym (get_or-drop c.args.from (drawn r.parameters.set r.bytes.now) c.loop-i.i 0)) c.if-x-eq0.false (omega arith)

pub returns-clause-count : goal.returns-clause-count
returns-clause-count c = (keep_end _ _ _ _ c.loop-i.invariant c.args.count (length c.args.kept.now) c.loop-i.auto.kept (omega arith) (λ h. omega arith)).0

pub returns-clause-kept : goal.returns-clause-kept
returns-clause-kept c = (keep_end _ _ _ _ c.loop-i.invariant c.args.count (length c.args.kept.now) c.loop-i.auto.kept (omega arith) (λ h. omega arith)).1
