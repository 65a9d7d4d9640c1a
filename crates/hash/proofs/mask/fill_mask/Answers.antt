-- A mask laid over zeros is the mask.
use Rattle.std.proofs.Common.{length}
use Rattle.hash.proofs.Masks.{filled}
use Rattle.hash.proofs.mask.fill_mask.Goals as goal

pub returns : goal.returns
returns c = λ seed holds. filled (length c.args.s.now) seed (c.fill.ensures.after (λ y e. e)) (c.xor_mask.ensures seed holds)
