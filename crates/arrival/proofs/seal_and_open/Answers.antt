-- A pair was made or not; if so, the message arrives.
use Rattle.arrival.proofs.Ways.{way-unmade, way-sealed}
use Rattle.arrival.proofs.seal_and_open.Goals as goal

pub returns-in-Err : goal.returns-in-Err
returns-in-Err c = search way-unmade

pub returns-in-Ok : goal.returns-in-Ok
returns-in-Ok c = search way-sealed
