-- The sum of those multiples of b that a's digits ask for.
use Rattle.std.proofs.Common.{◌∙◌}
use Rattle.gf.proofs.Ring.{mul_comm, mul-lt}
use Rattle.gf.specs.Ten.{ten}
use Rattle.gf.proofs.product.Goals as goal

pub returns : goal.returns
returns c =
    let a = c.args in
    let e = c.combine.ensures a.b c.multiples.ensures ∙ mul_comm ten a.b a.a in
    record { value = e; small = rw e (mul-lt ten a.a a.b) }
