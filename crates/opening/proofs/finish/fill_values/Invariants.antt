use Rattle.std.proofs.Common.{◌≡◌, ℕ, ◌<◌, get_or}
use Rattle.gf.specs.Field.{◌⊕◌}
use Rattle.opening.proofs.finish.fill_values.Given as goal

abbrev pub invariant-loop-i : goal.invariant-loop-i
invariant-loop-i l = (i : ℕ) → i < l.i → get_or l.values i 0 ≡ get_or l.sent (get_or l.places i 0) 0 ⊕ get_or l.received (get_or l.places i 0) 0
