use Rattle.std.proofs.Common.{◌∙◌}
use Rattle.making.proofs.Shuffles.{first_is}
use Rattle.making.proofs.orders.draw_first.Goals as goal

pub returns : goal.returns
returns c = let r = c.args.random.now in c.shuffle.ensures ∙ first_is r.parameters.set r.bytes.now r.parameters.valid r.whole _ _ c.requires c.for_first.ensures
