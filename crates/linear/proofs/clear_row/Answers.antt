-- A multiple of the zeros before the pivot adds nothing, so the shorter run is the whole one.
use Rattle.linear.proofs.Steps.{clear_zero, clear-adds}
use Rattle.linear.proofs.clear_row.Goals as goal

pub returns-then-x-eq0 : goal.returns-then-x-eq0
returns-then-x-eq0 c = search clear_zero

pub returns : goal.returns
returns c = search clear-adds
