use Rattle.std.proofs.Common.{◌∙◌, ◌*◌, ◌+◌, arith}
use Rattle.making.proofs.Lists.{take_put}
use Rattle.making.proofs.Searching.{searching_fails, searching_more, searching_end}
use Rattle.making.proofs.blocks.search.Goals as goal

pub returns-in_default-clause-none : goal.returns-in_default-clause-none
returns-in_default-clause-none c = searching_fails _ _ _ _ _ c.loop-i.invariant c.loop-i-test.true c.in_default.ensures.none

pub loop-i-preserved : goal.loop-i-preserved
loop-i-preserved c =
    searching_more _ _ _ c.loop-i.blocks _ c.loop-i.invariant c.loop-i-test.true c.in-Some.block c.in-Some.after.now _ c.in-Some.ensures.found
    (take_put (4 * c.loop-i.i) 4 (4 * (c.loop-i.i + 1)) c.store.new.run c.loop-i.blocks _ (omega arith) (rw c.store.ensures) (omega arith) ∙ rw c.store.ensures)

pub returns-clause-found : goal.returns-clause-found
returns-clause-found c = searching_end _ _ _ _ _ c.loop-i.invariant (omega arith) (omega arith)
