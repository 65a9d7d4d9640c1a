use Rattle.std.proofs.Common.{◌≢◌, ℕ, ◌<◌, get_or}
use Rattle.opening.specs.Held.{held}
use Rattle.opening.proofs.key.PrivateKey.none_zero.Given as goal

abbrev pub invariant-loop-i : goal.invariant-loop-i
invariant-loop-i l = (i : ℕ) → i < l.i → get_or (held l.self).inverses i 0 ≢ 0
