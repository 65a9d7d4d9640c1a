use Rattle.std.proofs.Common.{◌≡◌, length, min, arith}
use Rattle.hash.specs.Mask.{mgf}
use Rattle.hash.proofs.Masks.{over_none, over_digest, over_digests}
use Rattle.hash.proofs.mask.xor_mask.Goals as goal

pub loop-n-init : goal.loop-n-init
loop-n-init c =
    let start : 0 ≡ min 0 (length c.args.s.now) = omega arith in
    λ seed _. rw start at (over_none c.args.s.now (mgf seed (length c.args.s.now)))

pub loop-n-preserved : goal.loop-n-preserved
loop-n-preserved c =
    λ seed holds.
    over_digest seed c.loop-n.n (omega (arith, c.div_ceil-n-end.ensures)) c.min-end.ensures (c.nth.ensures seed holds) c.xor_into.ensures (c.loop-n.invariant seed holds)

pub returns : goal.returns
returns c = λ seed holds. over_digests c.loop-n.n (omega (arith, c.div_ceil-n-end.ensures)) (c.loop-n.invariant seed holds)
