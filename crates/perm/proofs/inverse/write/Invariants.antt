-- After i turns q is what the definition has after i turns.
use Rattle.std.proofs.Common.{◌≡◌, get_or, set}
use Rattle.lists.specs.Loops.{turns}
use Rattle.perm.proofs.inverse.write.Given as goal

abbrev pub invariant-loop-i : goal.invariant-loop-i
invariant-loop-i g l = l.q ≡ turns (λ k r. set r (get_or (g.P.Entries.list l.p) k 0) k) l.i l.fn.q
