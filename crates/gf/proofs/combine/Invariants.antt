-- The sum over the first i digits.
use Rattle.std.proofs.Common.{◌≡◌}
use Rattle.gf.proofs.Digits.{combined}
use Rattle.gf.proofs.combine.Given as goal

abbrev pub invariant-loop-i : goal.invariant-loop-i
invariant-loop-i l = l.sum ≡ combined l.i l.t l.v
