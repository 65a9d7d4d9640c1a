-- The count of the answer is small.
use Rattle.calls.proofs.Counts.{wrap-count}
use Rattle.stanquivol.proofs.stanquivol_wrap.Goals as goal

pub call_number-requires : goal.call_number-requires
call_number-requires c = search wrap-count
