use Rattle.std.proofs.Common.{◌∙◌, refl, arith}
use Rattle.sealing.proofs.Finding.{first-from, found_here, found-later, found_nowhere}
use Rattle.sealing.proofs.find.Goals as goal

pub loop-b-init : goal.loop-b-init
loop-b-init c = (refl, first-from c.args.rooms.now.parameters.set c.args.msg.now c.args.random.now)

pub returns-then-try_block-clause-finds : goal.returns-then-try_block-clause-finds
returns-then-try_block-clause-finds c =
    let same = c.loop-b.invariant.0 in
    found_here c.args.rooms.now.parameters.set c.args.msg.now c.args.random.now c.loop-b.b c.loop-b.invariant.1 c.loop-b-test.true c.try_block.result
    (rw same at c.try_block.ensures.fits) c.if-try_block.true _ _ (rw same at c.try_block.ensures.drawn)

pub loop-b-preserved : goal.loop-b-preserved
loop-b-preserved c =
    let same = c.loop-b.invariant.0 in (
      c.try_block.ensures.same_set ∙ same,
      found-later c.args.rooms.now.parameters.set c.args.msg.now c.args.random.now c.loop-b.b c.loop-b.invariant.1 c.loop-b-test.true c.try_block.result
          (rw same at c.try_block.ensures.fits) c.if-try_block.false,
    )

pub returns-clause-finds : goal.returns-clause-finds
returns-clause-finds c =
    found_nowhere c.args.rooms.now.parameters.set c.args.msg.now c.args.random.now c.loop-b.b c.loop-b.invariant.1 (omega (arith, c.loop-b.auto.b-end))
    c.loop-b-test.false
