-- It was sealed or not; if so, what opening ensures is of what was sealed.
use Rattle.arrival.proofs.Ways.{not-sealed, then-opened}
use Rattle.arrival.proofs.seal_then_open.Goals as goal

pub returns-in-Err : goal.returns-in-Err
returns-in-Err c = search not-sealed

pub returns-in-Ok : goal.returns-in-Ok
returns-in-Ok c = search then-opened
