-- After i turns the list is what the definition has after i turns.
use Rattle.std.proofs.Common.{◌≡◌}
use Rattle.lists.specs.Loops.{turns}
use Rattle.perm.specs.Shuffle.{identity, swapped, partner}
use Rattle.perm.proofs.swaps.shuffle.Given as goal

abbrev pub invariant-loop-i : goal.invariant-loop-i
invariant-loop-i l = l.p ≡ turns (λ k r. swapped r k (partner l.bytes l.u k)) l.i (identity l.u)
