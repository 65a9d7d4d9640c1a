use Rattle.std.proofs.Common.{refl, arith}
use Rattle.code.proofs.Kernels.{equation, lent-row}
use Rattle.code.proofs.places.put_equation.Goals as goal

pub returns : goal.returns
returns c = equation _ _ _ _ _ _ c.requires.fits (lent-row _ _ _ _ c.copy.ensures (omega arith)) refl
