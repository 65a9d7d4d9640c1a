use Rattle.std.proofs.Common.{refl, arith, ◌∙◌}
use Rattle.gf.specs.Ten.{ten}
use Rattle.gf.proofs.Rows.{row_times-at}
use Rattle.code.proofs.Kernels.{power-rows-none, power-rows-more, first_power, next_power}
use Rattle.code.proofs.values.power_rows.Goals as goal

pub loop-i-init : goal.loop-i-init
loop-i-init c = record { rows = power-rows-none ten _ _ _; powers = λ j h. rw c.copy.ensures (first_power ten _ (c.requires.small.small j h)) }

pub loop-i-preserved : goal.loop-i-preserved
loop-i-preserved c =
    let l = c.loop-i in
    let n = l.auto.next ∙ c.copy.auto.to ∙ c.requires.same in
    record {
      rows = power-rows-more ten _ _ _ _ _ _ _ l.invariant.rows n l.invariant.powers refl c.put_equation.ensures;
      powers = λ j h. (rw c.multiply.ensures (row_times-at ten _ _ j (omega (arith, n)))) ∙ next_power ten _ _ _ (l.invariant.powers j h);
    }
