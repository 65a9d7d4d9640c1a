-- The exponent counts modulo the order.
use Rattle.std.proofs.Common.{◌∙◌}
use Rattle.gf.proofs.Cyclic.{alpha-mod}
use Rattle.gf.proofs.Ring.{alpha-lt}
use Rattle.gf.proofs.Ten.{ten-field}
use Rattle.gf.specs.Ten.{ten}
use Rattle.gf.proofs.power.Goals as goal

pub returns : goal.returns
returns c =
    let i = c.args.i in
    let e = c.pow_at.ensures ∙ alpha-mod ten-field i in
    record { value = e; small = rw e (alpha-lt ten i) }
