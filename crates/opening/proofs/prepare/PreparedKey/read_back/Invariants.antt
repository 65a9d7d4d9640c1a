use Rattle.std.proofs.Common.{◌≡◌, ℕ, ◌<◌, get_or}
use Rattle.opening.specs.Held.{held}
use Rattle.opening.specs.Vector.{known_of}
use Rattle.opening.proofs.prepare.PreparedKey.read_back.Given as goal

abbrev pub invariant-loop-i : goal.invariant-loop-i
invariant-loop-i l = (i : ℕ) → i < l.i → get_or l.vector i 0 ≡ known_of l.self.key.parameters.set (held l.self.key) l.word i
