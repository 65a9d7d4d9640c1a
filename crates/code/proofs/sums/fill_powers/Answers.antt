use Rattle.std.proofs.Common.{rules, arith}
use Rattle.std.proofs.lemmas.Grind.{common_steps}
use Rattle.code.proofs.Powers.{alpha-start, alpha-next}
use Rattle.code.proofs.sums.fill_powers.Goals as goal

pub loop-i-init : goal.loop-i-init
loop-i-init c = record { next_is = search alpha-start; done = search rules }

pub loop-i-preserved : goal.loop-i-preserved
loop-i-preserved c = record { next_is = search alpha-next; done = grind (arith, common_steps) }

pub returns : goal.returns
returns c = record { is = λ j h. c.loop-i.invariant.done j (omega arith) }
