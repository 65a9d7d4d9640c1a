-- The first i turns of the definition.
use Rattle.std.proofs.Common.{◌≡◌, get_or, set}
use Rattle.lists.specs.Loops.{turns}
use Rattle.making.proofs.keys.invert.Given as goal

abbrev pub invariant-loop-i : goal.invariant-loop-i
invariant-loop-i l = l.inverse ≡ turns (λ k r. set r (get_or l.order k 0) k) l.i l.initial.inverse
