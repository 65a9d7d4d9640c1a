-- The first i bytes have their mask.
use Rattle.hash.proofs.Masks.{Over}
use Rattle.hash.proofs.mask.xor_into.Given as goal

abbrev pub invariant-loop-i : goal.invariant-loop-i
invariant-loop-i l = Over l.fn.s l.mask l.i l.s
