-- Nothing is held of the empty message.
use Rattle.std.proofs.Common.{refl}
use Rattle.hash.specs.Sha.{chain}
use Rattle.hash.proofs.hasher.Hasher.new.Goals as goal

pub returns-clause-holds : goal.returns-clause-holds
unfolding chain
returns-clause-holds c = record { state_is = c.initial.ensures; rest_is = refl; rest_long = refl; len_is = refl }
