use Rattle.std.proofs.Common.{refl, ap, ◌∙◌, ℕ, ◌-◌, get_or}
use Rattle.gf.specs.Field.{◌⊕◌}
use Rattle.opening.proofs.Vectors.{side_is}
use Rattle.opening.proofs.prepare.PreparedKey.side.Goals as goal

pub returns : goal.returns
returns c =
    let self = c.args.self.now in
    ap (λ (x : ℕ). get_or c.args.tail.now (get_or self.plain.now c.args.b 0 - self.key.parameters.set.k) 0 ⊕ x) c.redone.ensures
    ∙ side_is self.key.parameters.set _ c.args.word.now self.second.now self.plain.now c.args.tail.now c.args.b _ _ self.second_is self.plain_is refl refl
