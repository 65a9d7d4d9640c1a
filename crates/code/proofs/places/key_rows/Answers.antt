use Rattle.std.proofs.Common.{refl, arith}
use Rattle.code.proofs.Kernels.{key_more, cut-length, cut-at}
use Rattle.code.proofs.places.key_rows.Goals as goal

pub loop-i-preserved : goal.loop-i-preserved
loop-i-preserved c =
    let l = c.loop-i in
    key_more c.args.t l.i c.args.sums.now _ _ _ _ c.put_equation.ensures (cut-length l.i c.args.t c.args.sums.now (omega (arith, c.requires.sums))) (cut-at l.i c.args.t c.args.sums.now) refl l.invariant
