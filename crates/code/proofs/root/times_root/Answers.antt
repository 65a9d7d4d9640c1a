use Rattle.std.proofs.Common.{arith}
use Rattle.gf.specs.Ten.{ten}
use Rattle.code.proofs.Coefficients.{passed_none, passed-more, passed-end}
use Rattle.code.proofs.root.times_root.Goals as goal

pub loop-j-init : goal.loop-j-init
loop-j-init c = passed_none ten _ _

pub loop-j-preserved : goal.loop-j-preserved
loop-j-preserved c = passed-more ten _ _ _ _ _ c.loop-j.invariant (omega arith) (omega (arith, c.loop-j.auto.j)) c.product.ensures.value

pub returns : goal.returns
returns c = passed-end ten _ _ _ _ _ c.loop-j.invariant (omega arith) c.requires.some c.product-2.ensures.value
