-- The points at the places, the equations, and their solution.
use Rattle.std.proofs.Common.{arith, refl, ◌∙◌}
use Rattle.gf.proofs.Ten.{ten-field}
use Rattle.gf.specs.Ten.{ten}
use Rattle.code.proofs.Locating.{kernel-is}
use Rattle.code.proofs.Valuing.{value-matrix, valued, point-there, points-small}
use Rattle.code.proofs.values.find_values.Goals as goal

pub power_rows-requires-clause-small : goal.power_rows-requires-clause-small
power_rows-requires-clause-small c = points-small ten _ _ _ _ _ c.requires.suspects c.requires.points refl c.gather.ensures (c.gather.auto.to ∙ c.requires.there)

pub kernel_vector-requires-clause-matrix : goal.kernel_vector-requires-clause-matrix
kernel_vector-requires-clause-matrix c =
    let there = point-there ten _ _ _ _ _ c.requires.suspects c.requires.points refl c.gather.ensures in
    value-matrix ten _ _ _ _ _ c.requires.small c.requires.suspects (c.gather.auto.to ∙ c.requires.there) there c.power_rows.ensures (omega (arith, c.power_rows.auto.matrix))

pub kernel_vector-requires-clause-small : goal.kernel_vector-requires-clause-small
kernel_vector-requires-clause-small c = omega (arith, c.requires.suspects.few)

pub returns-clause-there : goal.returns-clause-there
returns-clause-there c = point-there ten _ _ _ _ _ c.requires.suspects c.requires.points refl c.gather.ensures

pub returns-clause-values : goal.returns-clause-values
returns-clause-values c =
    let there = point-there ten _ _ _ _ _ c.requires.suspects c.requires.points refl c.gather.ensures in
    let n = c.gather.auto.to ∙ c.requires.there in
    let M = value-matrix ten _ _ _ _ _ c.requires.small c.requires.suspects n there c.power_rows.ensures (omega (arith, c.power_rows.auto.matrix)) in
    valued ten _ _ _ _ _ c.requires.small c.requires.suspects n there c.power_rows.ensures ten-field c.requires.order M _ (kernel-is ten _ _ _ _ _ _ c.kernel_vector.ensures)
