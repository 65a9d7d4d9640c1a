use Rattle.std.proofs.Common.{refl}
use Rattle.hash.specs.Sha.{chain}
use Rattle.hash.proofs.Chain.{chain-step}
use Rattle.hash.proofs.block.blocks.Goals as goal

pub loop-i-init : goal.loop-i-init
unfolding chain
loop-i-init c = refl

pub loop-i-preserved : goal.loop-i-preserved
loop-i-preserved c = cc (chain-step c.args.s.now c.args.p.now c.loop-i.i)
