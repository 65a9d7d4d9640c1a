-- The two hash values are the same numbers.
use Rattle.std.proofs.Common.{refl}
use Rattle.hash.specs.Constants.{initial}
use Rattle.hash.proofs.constants.initial.Goals as goal

pub returns : goal.returns
unfolding initial
returns c = refl
