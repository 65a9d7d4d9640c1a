-- It was wrapped or not; if so, what unwrapping ensures is of what was wrapped.
use Rattle.arrival.proofs.Ways.{not-wrapped, then-unwrapped}
use Rattle.arrival.proofs.wrap_then_unwrap.Goals as goal

pub returns-in-Err : goal.returns-in-Err
returns-in-Err c = search not-wrapped

pub returns-in-Ok : goal.returns-in-Ok
returns-in-Ok c = search then-unwrapped
