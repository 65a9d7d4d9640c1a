-- A pair was made or not; if so, the secret arrives.
use Rattle.arrival.proofs.Ways.{way-unwrapped, way-wrapped}
use Rattle.arrival.proofs.wrap_and_unwrap.Goals as goal

pub returns-in-Err : goal.returns-in-Err
returns-in-Err c = search way-unwrapped

pub returns-in-Ok : goal.returns-in-Ok
returns-in-Ok c = search way-wrapped
