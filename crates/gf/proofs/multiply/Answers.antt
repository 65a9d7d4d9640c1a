use Rattle.std.proofs.Common.{rules, arith, ◌∙◌}
use Rattle.std.proofs.lemmas.Grind.{common_steps}
use Rattle.gf.specs.Ten.{ten}
use Rattle.gf.proofs.Ring.{mul_comm}
use Rattle.gf.proofs.Rows.{row_times-is}
use Rattle.gf.proofs.multiply.Goals as goal

pub loop-i-preserved : goal.loop-i-preserved
loop-i-preserved c = let e = c.combine.ensures _ c.multiples-t.ensures ∙ mul_comm ten _ _ in record { done = grind (arith, common_steps); rest = grind (arith, common_steps) }

pub returns : goal.returns
returns c = search (rules, row_times-is)
