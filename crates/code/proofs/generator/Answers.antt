use Rattle.std.proofs.Common.{rules, arith, sym, ◌∙◌, ◌≡◌, length, set, length-set}
use Rattle.code.proofs.Coefficients.{holds-one, holds_more, holds-end}
use Rattle.code.proofs.generator.Goals as goal

pub loop-i-init : goal.loop-i-init
loop-i-init c = holds-one _ (length c.args.out.now) _ (search rules) c.requires.some

pub loop-i-preserved : goal.loop-i-preserved
loop-i-preserved c = holds_more _ _ _ _ _ c.loop-i.invariant (omega arith) c.power.ensures.value c.times_root.ensures

pub returns : goal.returns
returns c =
    let n : length (set c.fill.new.self 0 1) ≡ length c.args.out.now = simp length-set c.fill.ensures.len in
    holds-end _ _ _ _ c.loop-i.invariant (omega arith) (omega (arith, c.requires.some, n)) (omega (arith, n)) (sym (c.loop-i.auto.out ∙ n))
