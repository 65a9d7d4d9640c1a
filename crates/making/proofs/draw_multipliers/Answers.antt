use Rattle.making.proofs.Drawn.{few_usable, enough_usable, first_usable}
use Rattle.making.proofs.draw_multipliers.Goals as goal

pub returns-then-keep_non_zero-n-clause-few : goal.returns-then-keep_non_zero-n-clause-few
returns-then-keep_non_zero-n-clause-few c = let r = c.args.random.now in few_usable r.parameters.set r.bytes.now c.keep_non_zero.new.kept _ _ c.keep_non_zero.ensures.count c.requires c.if-keep_non_zero-n.true

pub returns-clause-drawn : goal.returns-clause-drawn
returns-clause-drawn c =
    let r = c.args.random.now in
    first_usable r.parameters.set r.bytes.now c.keep_non_zero.new.kept _ _ c.keep_non_zero.ensures.count c.requires c.if-keep_non_zero-n.false c.keep_non_zero.auto.kept c.keep_non_zero.ensures.kept

pub returns-clause-enough : goal.returns-clause-enough
returns-clause-enough c = let r = c.args.random.now in enough_usable r.parameters.set r.bytes.now c.keep_non_zero.new.kept _ _ c.keep_non_zero.ensures.count c.requires c.if-keep_non_zero-n.false
