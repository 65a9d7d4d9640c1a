-- Scaling leaves the zeros before the pivot, so the shorter run is the whole one.
use Rattle.std.proofs.Common.{rules}
use Rattle.linear.proofs.Keeps.{lead-scale}
use Rattle.linear.proofs.Steps.{scale-stays, scale-scales}
use Rattle.linear.proofs.scale_pivot.Goals as goal

pub returns-then-x-eq1 : goal.returns-then-x-eq1
returns-then-x-eq1 c = record { did = search scale-stays; lead = search rules }

pub returns : goal.returns
returns c = record { did = search scale-scales; lead = search lead-scale }
