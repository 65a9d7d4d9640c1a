-- GF(2^10) is a field: the test of its modulus, computed by antt.
use lib.Dec.{T}
use Rattle.gf.specs.Field.{times_x}
use Rattle.gf.specs.Ten.{ten}
use Rattle.gf.proofs.Cyclic.{Cyclic}
use Rattle.gf.proofs.Test.{test, walk, all, find, child, put, powers, logs, power_tree, log_tree, cyclic}

pub ten-test : T (test ten (power_tree ten) (log_tree ten))
unfolding test walk all find child put powers logs power_tree log_tree times_x
ten-test = tt

pub ten-field : Cyclic ten
ten-field = cyclic ten (power_tree ten) (log_tree ten) ten-test
