use Rattle.std.proofs.Common.{sym, ◌∙◌}
use Rattle.opening.proofs.Combining.{tail_part}
use Rattle.opening.proofs.Reading.{second_at}
use Rattle.opening.proofs.key.PrivateKey.second.Goals as goal

pub returns : goal.returns
returns c = let self = c.args.self.now in simp tail_part at c.number_at.ensures.number ∙ sym (second_at self.parameters.set self.bytes.now self.parameters.valid self.whole c.args.i c.requires)
