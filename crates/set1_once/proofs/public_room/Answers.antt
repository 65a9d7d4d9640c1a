-- The length is that of a repeat.
use Rattle.set1_once.proofs.Repeats.{told}
use Rattle.set1_once.proofs.public_room.Goals as goal

pub returns : goal.returns
returns c = told 118441 165
