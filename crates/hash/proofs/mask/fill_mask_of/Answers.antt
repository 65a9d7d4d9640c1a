-- The hasher holds the parts, and the mask is theirs.
use Rattle.hash.proofs.mask.fill_mask_of.Goals as goal

pub returns : goal.returns
returns c = c.fill_mask.ensures _ c.add_parts.ensures
