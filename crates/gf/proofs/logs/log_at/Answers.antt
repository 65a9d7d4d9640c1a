-- At each place but 0 stands the power that reaches it: one computed test, carried to the place a.
use Rattle.gf.proofs.Tables.{logged, log-rule}
use Rattle.gf.proofs.Ten.{ten-test}
use Rattle.gf.proofs.Test.{find, child, put, powers, power_tree, log_tree}
use Rattle.gf.specs.Field.{times_x}
use Rattle.gf.specs.Ten.{ten}
use Rattle.gf.proofs.logs.log_at.Goals as goal

pub returns : goal.returns
unfolding logged find child put powers power_tree times_x
returns c = search (log-rule ten (power_tree ten) (log_tree ten) ten-test)
