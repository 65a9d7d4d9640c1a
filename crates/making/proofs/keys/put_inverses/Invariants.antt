-- The inverses before i stand.
use Rattle.std.proofs.Common.{◌≡◌, ℕ, ◌<◌, get_or}
use Rattle.gf.specs.Field.{inverse}
use Rattle.gf.specs.Ten.{ten}
use Rattle.making.proofs.keys.put_inverses.Given as goal

abbrev pub invariant-loop-i : goal.invariant-loop-i
invariant-loop-i l = (q : ℕ) → q < l.i → get_or l.inverses q 0 ≡ inverse ten (get_or l.elements q 0)
