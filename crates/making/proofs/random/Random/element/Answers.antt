use Rattle.std.proofs.Common.{◌∙◌}
use Rattle.making.proofs.Drawn.{drawn_at}
use Rattle.making.proofs.random.Random.element.Goals as goal

pub returns : goal.returns
returns c = let r = c.args.self.now in c.bits_at.ensures.bits ∙ drawn_at r.parameters.set r.bytes.now r.parameters.valid r.whole c.args.i c.requires
