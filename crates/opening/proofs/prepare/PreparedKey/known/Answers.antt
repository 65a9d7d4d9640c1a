use Rattle.std.proofs.Common.{refl, ◌∙◌}
use Rattle.opening.proofs.Vectors.{known_plain, known_mixed}
use Rattle.opening.proofs.prepare.PreparedKey.known.Goals as goal

pub returns-then-p-n : goal.returns-then-p-n
returns-then-p-n c =
    let self = c.args.self.now in
    c.redone.ensures ∙ known_plain self.key.parameters.set _ c.args.word.now self.second.now _ _ c.args.i self.second_is refl refl c.if-p-n.true

pub returns-else-p-n : goal.returns-else-p-n
returns-else-p-n c =
    let self = c.args.self.now in
    known_mixed self.key.parameters.set _ c.args.word.now self.second.now _ _ c.args.i self.second_is refl refl c.if-p-n.false
