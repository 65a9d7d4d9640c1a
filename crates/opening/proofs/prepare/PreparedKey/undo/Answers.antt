use Rattle.std.proofs.Common.{rules}
use Rattle.opening.proofs.Undoing.{undone_is}
use Rattle.opening.proofs.prepare.PreparedKey.undo.Goals as goal

pub returns : goal.returns
returns c = undone_is _ _ c.args.received.now c.loop-j.word (search rules) (λ j h. c.loop-j.invariant j (search rules))
