-- The length is that of a repeat.
use Rattle.set1_once.proofs.Repeats.{told}
use Rattle.set1_once.proofs.private_room.Goals as goal

pub returns : goal.returns
returns c = told 121666 165
