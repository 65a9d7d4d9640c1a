-- The sums are elements, and the values are the first of the vector.
use Rattle.gf.specs.Ten.{ten}
use Rattle.code.proofs.Deciding.{sums-small, first-values}
use Rattle.code.proofs.correct.Goals as goal

pub find_values-requires-clause-small : goal.find_values-requires-clause-small
find_values-requires-clause-small c = sums-small ten _ _ _ c.requires.summed.sums_are

pub apply-requires-clause-values : goal.apply-requires-clause-values
apply-requires-clause-values c = rw c.requires.all_points at (first-values ten _ _ _ _ c.find_values.ensures.values)
