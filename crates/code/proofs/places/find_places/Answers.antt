-- The key equations, their kernel vector, its values at the points, and the places where these are 0.
use Rattle.std.proofs.Common.{arith, length}
use Rattle.gf.proofs.Ten.{ten-field}
use Rattle.gf.specs.Ten.{ten}
use Rattle.code.proofs.Locating.{key-matrix, kernel-is, locator-small, located}
use Rattle.code.proofs.places.find_places.Goals as goal

pub kernel_vector-requires-clause-matrix : goal.kernel_vector-requires-clause-matrix
kernel_vector-requires-clause-matrix c = key-matrix ten _ _ _ c.requires.small c.requires.double (omega (arith, c.key_rows.auto.matrix, c.requires.matrix)) c.key_rows.ensures

pub power_sums-requires-clause-small : goal.power_sums-requires-clause-small
power_sums-requires-clause-small c =
    let n = length c.args.values.now in
    let M = key-matrix ten _ _ _ c.requires.small c.requires.double (omega (arith, c.key_rows.auto.matrix, c.requires.matrix)) c.key_rows.ensures in
    locator-small ten ten-field n _ _ _ c.requires.double M c.key_rows.ensures _ (kernel-is ten _ _ _ _ _ _ c.kernel_vector.ensures)

pub returns-clause-suspects : goal.returns-clause-suspects
returns-clause-suspects c =
    let M = key-matrix ten _ _ _ c.requires.small c.requires.double (omega (arith, c.key_rows.auto.matrix, c.requires.matrix)) c.key_rows.ensures in
    located ten ten-field _ _ _ _ c.requires.double M c.key_rows.ensures _ _ (kernel-is ten _ _ _ _ _ _ c.kernel_vector.ensures) c.power_sums.ensures.sums c.power_sums.auto.sums c.requires.order _ _ c.collect.auto.places (rw c.power_sums.auto.sums at c.collect.ensures)
