-- The two shifts leave a byte without its last bits.
use Rattle.padding.proofs.Cleared.{clear_step}
use Rattle.padding.proofs.clear_last_bits.Goals as goal

pub returns : goal.returns
returns c = clear_step _ _ (c.slice_known-1.given _).fits
