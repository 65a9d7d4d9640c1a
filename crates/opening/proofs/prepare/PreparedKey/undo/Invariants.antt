use Rattle.std.proofs.Common.{◌≡◌, ℕ, ◌<◌, get_or}
use Rattle.gf.specs.Field.{mul}
use Rattle.gf.specs.Ten.{ten}
use Rattle.scheme.specs.Opening.{kept}
use Rattle.opening.specs.Held.{held}
use Rattle.opening.proofs.prepare.PreparedKey.undo.Given as goal

abbrev pub invariant-loop-j : goal.invariant-loop-j
invariant-loop-j l = (j : ℕ) → j < l.j → get_or l.word j 0 ≡ mul ten (get_or (held l.self.key).inverses j 0) (kept l.self.key.parameters.set (held l.self.key) l.received (get_or (held l.self.key).q1 j 0))
