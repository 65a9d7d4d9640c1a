use Rattle.std.proofs.Common.{◌≡◌, ℕ, ◌<◌, get_or}
use Rattle.opening.specs.Held.{held}
use Rattle.opening.specs.Vector.{side_of}
use Rattle.opening.proofs.prepare.PreparedKey.right_side.Given as goal

abbrev pub invariant-loop-b : goal.invariant-loop-b
invariant-loop-b l = (b : ℕ) → b < l.b → get_or l.right b 0 ≡ side_of l.self.key.parameters.set (held l.self.key) l.word l.tail b
