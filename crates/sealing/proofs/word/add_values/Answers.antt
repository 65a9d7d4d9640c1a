use Rattle.std.proofs.Common.{◌-◌, arith}
use Rattle.sealing.proofs.Words.{added_none, added_more}
use Rattle.sealing.proofs.word.add_values.Goals as goal

pub loop-i-init : goal.loop-i-init
loop-i-init c = added_none _ _ _

pub loop-i-preserved : goal.loop-i-preserved
loop-i-preserved c =
    added_more c.loop-i.i c.from.result c.args.places.now c.args.values.now c.args.word.now c.loop-i.word (omega arith) (omega (arith, c.loop-i.auto)) c.requires.same_length
    c.requires.rising (c.requires.inside (c.loop-i.i - 1) (omega (arith, c.loop-i.auto))) c.from.ensures c.loop-i.invariant
