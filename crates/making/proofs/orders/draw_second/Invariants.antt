-- No window before p fits.
use Rattle.std.proofs.Common.{}
use Rattle.making.proofs.Shuffles.{Trying}
use Rattle.making.proofs.orders.draw_second.Given as goal

abbrev pub invariant-loop-p : goal.invariant-loop-p
invariant-loop-p l = Trying l.random.parameters.set l.random.bytes.now l.p
