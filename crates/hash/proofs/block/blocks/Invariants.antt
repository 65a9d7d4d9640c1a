-- After i blocks the hash value is that of the chain.
use Rattle.std.proofs.Common.{◌≡◌}
use Rattle.hash.specs.Sha.{chain}
use Rattle.hash.proofs.block.blocks.Given as goal

abbrev pub invariant-loop-i : goal.invariant-loop-i
invariant-loop-i l = l.s ≡ chain l.fn.s l.p l.i
