-- The code is the definition.
use Rattle.std.proofs.Common.{refl}
use Rattle.gf.specs.Field.{times_x}
use Rattle.gf.proofs.times_alpha.Goals as goal

pub returns : goal.returns
unfolding times_x
returns c = refl
