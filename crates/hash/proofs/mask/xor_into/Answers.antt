use Rattle.std.proofs.Common.{rules}
use Rattle.hash.proofs.Masks.{over_more}
use Rattle.hash.proofs.mask.xor_into.Goals as goal

pub loop-i-preserved : goal.loop-i-preserved
loop-i-preserved c = over_more c.loop-i.invariant (search rules)
