use Rattle.std.proofs.Common.{arith, ◌≡◌}
use Rattle.gf.proofs.Digits.{combined_none, combined_at, combined-is}
use Rattle.gf.specs.Ten.{ten}
use Rattle.gf.proofs.combine.Goals as goal

pub loop-i-init : goal.loop-i-init
loop-i-init c = combined_none _ _

pub loop-i-preserved : goal.loop-i-preserved
loop-i-preserved c = combined_at _ _ _ _ _ (omega arith) c.loop-i.invariant

pub returns : goal.returns
returns c f e = let z : c.loop-i.i ≡ 10 = omega arith in combined-is ten _ _ f _ (rw z at c.loop-i.invariant) e
