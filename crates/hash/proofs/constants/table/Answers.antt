-- The two tables are the same numbers.
use Rattle.std.proofs.Common.{refl}
use Rattle.hash.specs.Constants.{k_table}
use Rattle.hash.proofs.constants.table.Goals as goal

pub returns : goal.returns
unfolding k_table
returns c = refl
