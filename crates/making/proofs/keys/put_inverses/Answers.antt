use Rattle.std.proofs.Common.{◌∙◌, arith}
use Rattle.making.proofs.KeyLaws.{inverses_of}
use Rattle.making.proofs.keys.put_inverses.Goals as goal

pub returns : goal.returns
returns c = inverses_of _ _ (c.loop-i.auto.inverses ∙ c.requires) (λ q h. c.loop-i.invariant q (omega arith))
