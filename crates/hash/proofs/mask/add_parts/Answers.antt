use Rattle.std.proofs.Common.{Bor, List, [], ℕ, arith}
use Rattle.hash.proofs.Masks.{joined, joined_fits}
use Rattle.hash.proofs.mask.add_parts.Goals as goal

pub update-requires : goal.update-requires
update-requires c =
    let fits = joined_fits (λ (part : Bor (List ℕ)). part.now) c.args.seed.now c.loop-part.part-index (record { ref_ptr = (0, 0); now = [] }) (omega arith) in
    omega (arith, c.loop-part.invariant.len_is, fits)

pub loop-part-preserved : goal.loop-part-preserved
loop-part-preserved c =
    let next = joined (λ (part : Bor (List ℕ)). part.now) c.args.seed.now c.loop-part.part-index (record { ref_ptr = (0, 0); now = [] }) (omega arith) in
    rw next (c.update.ensures.goes_on _ c.loop-part.invariant)
