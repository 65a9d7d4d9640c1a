-- The count of the answer is small.
use Rattle.calls.proofs.Counts.{setup-count}
use Rattle.stanquivol.proofs.stanquivol_setup.Goals as goal

pub call_number-requires : goal.call_number-requires
call_number-requires c = search setup-count
