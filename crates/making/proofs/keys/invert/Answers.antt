use Rattle.std.proofs.Common.{arith}
use Rattle.making.proofs.KeyLaws.{inverse_end}
use Rattle.making.proofs.keys.invert.Goals as goal

pub returns : goal.returns
returns c = inverse_end _ c.args.inverse.now _ _ c.loop-i.invariant (omega arith) c.requires.inverse c.requires.permutation
