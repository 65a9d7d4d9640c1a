-- α to the sum of the logarithms is the product; the exponent counts modulo the order.
use Rattle.std.proofs.Common.{arith, ◌∙◌}
use Rattle.gf.proofs.Cyclic.{mul-log}
use Rattle.gf.proofs.Ring.{mul-zero-left, mul-zero-right}
use Rattle.gf.proofs.Ten.{ten-field}
use Rattle.gf.proofs.calls.by_tables.Goals as goal

pub returns-then-a-eq0 : goal.returns-then-a-eq0
returns-then-a-eq0 c = grind (arith, mul-zero-left, mul-zero-right)

pub returns : goal.returns
returns c = c.pow_at.ensures ∙ mul-log ten-field c.log_at-i.ensures c.log_at-j.ensures
