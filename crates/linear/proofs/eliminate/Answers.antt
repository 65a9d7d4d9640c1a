use Rattle.std.proofs.Common.{rules, arith}
use Rattle.linear.proofs.Keeps.{reduced-more}
use Rattle.linear.proofs.Steps.{elim-again, elim-stop, elim-end}
use Rattle.linear.specs.Elimination.{eliminated}
use Rattle.linear.proofs.eliminate.Goals as goal

pub returns-in_default : goal.returns-in_default
unfolding eliminated
returns-in_default c = elim-stop _ _ _ _ _ _ _ _ c.loop-c.invariant.left c.loop-c-test.true c.in_default.ensures.none

pub loop-c-preserved : goal.loop-c-preserved
loop-c-preserved c =
    let l = c.loop-c in
    let p = c.in-Some.ensures in
    record {
      few = search rules;
      reduced = reduced-more _ _ _ _ _ _ _ _ _ l.invariant.reduced c.loop-c-test.true c.requires.in_cols p.from p.usable p.found c.reduce_column-ops.ensures;
      left = elim-again _ _ _ _ _ _ _ _ l.invariant.left _ c.loop-c-test.true p.found p.usable _ _ _ c.reduce_column-ops.ensures;
    }

pub returns : goal.returns
unfolding eliminated
returns c = elim-end _ _ _ _ _ _ _ _ c.loop-c.invariant.left (omega arith)
