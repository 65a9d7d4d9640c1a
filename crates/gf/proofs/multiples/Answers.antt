use Rattle.std.proofs.Common.{arith, refl, sym, length-set, ◌∙◌}
use Rattle.gf.proofs.Digits.{multiples-are, shift-more, stored_more}
use Rattle.gf.proofs.Ring.{shift_zero}
use Rattle.gf.specs.Ten.{ten}
use Rattle.gf.proofs.multiples.Goals as goal

pub loop-i-init : goal.loop-i-init
loop-i-init c = record { long = refl; next_is = sym (shift_zero ten _); done = λ k h. absurd (omega arith) }

pub loop-i-preserved : goal.loop-i-preserved
loop-i-preserved c =
    let l = c.loop-i in
    record {
      long = length-set _ _ _ ∙ l.invariant.long;
      next_is = shift-more ten _ _ _ _ l.invariant.next_is c.times_alpha-next.ensures;
      done = stored_more _ _ _ _ (omega (arith, l.invariant.long)) l.invariant.next_is l.invariant.done;
    }

pub returns : goal.returns
returns c = multiples-are ten 10 _ _ c.loop-i.invariant.long (λ j h. c.loop-i.invariant.done j (omega arith))
