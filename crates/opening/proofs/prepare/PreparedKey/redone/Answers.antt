use Rattle.std.proofs.Common.{rules, ◌≡◌, refl, ap, ◌∙◌, get_or}
use Rattle.gf.specs.Field.{mul, inverse}
use Rattle.gf.specs.Ten.{ten}
use Rattle.opening.proofs.Vectors.{redone_is}
use Rattle.opening.proofs.prepare.PreparedKey.redone.Goals as goal

pub returns : goal.returns
returns c =
    let self = c.args.self.now in
    let i = get_or self.first.now c.args.j 0 in
    let p : c.product.result ≡ mul ten (get_or c.args.word.now i 0) c.reciprocal.result = search rules in
    let r : c.reciprocal.result ≡ inverse ten c.inverse.result = search rules in
    p ∙ ap (mul ten (get_or c.args.word.now i 0)) (r ∙ ap (inverse ten) c.inverse.ensures) ∙ redone_is self.key.parameters.set _ c.args.word.now self.first.now i c.args.j self.first_is refl
