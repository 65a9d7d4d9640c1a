use Rattle.making.proofs.Drawn.{searched}
use Rattle.making.proofs.blocks.draw_blocks.Goals as goal

pub returns-clause-found : goal.returns-clause-found
returns-clause-found c =
    let r = c.args.random.now in
    rw (← searched r.parameters.set r.bytes.now _ _ _ c.requires.elements c.keep_non_zero-count.ensures.count c.keep_non_zero-count.ensures.kept) c.search.ensures.found

pub returns-clause-none : goal.returns-clause-none
returns-clause-none c =
    let r = c.args.random.now in
    rw (← searched r.parameters.set r.bytes.now _ _ _ c.requires.elements c.keep_non_zero-count.ensures.count c.keep_non_zero-count.ensures.kept) c.search.ensures.none
