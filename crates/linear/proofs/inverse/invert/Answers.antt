-- All n columns done, or fewer.
use Rattle.linear.proofs.Reading.{invert-ready, invert-found, invert-singular}
use Rattle.linear.proofs.inverse.invert.Goals as goal

pub eliminate-outcome-requires-clause-matrix : goal.eliminate-outcome-requires-clause-matrix
eliminate-outcome-requires-clause-matrix c = search invert-ready

pub returns-then-outcome-n : goal.returns-then-outcome-n
returns-then-outcome-n c = search invert-singular

pub returns : goal.returns
returns c = search invert-found
