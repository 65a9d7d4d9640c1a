-- The padding is two parts more (`padded`).
use Rattle.std.proofs.Common.{refl, ◌∙◌}
use Rattle.hash.proofs.Finish.{padded}
use Rattle.hash.proofs.hasher.Hasher.finish.Goals as goal

pub returns-clause-digest : goal.returns-clause-digest
returns-clause-digest c =
    λ m h.
    c.output.ensures ∙ padded m h.len_is refl c.bits-size.ensures (c.update-2.ensures.goes_on _ (c.update.ensures.goes_on m h))
