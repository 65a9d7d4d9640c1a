-- The two cases of the definition.
use Rattle.linear.proofs.Steps.{place-stays, place-moves}
use Rattle.linear.proofs.place_pivot.Goals as goal

pub returns-then-p-c : goal.returns-then-p-c
returns-then-p-c c = search place-stays

pub returns : goal.returns
returns c = search place-moves
