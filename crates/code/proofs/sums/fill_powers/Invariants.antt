-- The first i powers are written, and `next` is the next one.
use Rattle.std.proofs.Common.{◌≡◌, ℕ, ◌+◌, ◌<◌, get_or}
use Rattle.gf.specs.Field.{alpha}
use Rattle.gf.specs.Ten.{ten}
use Rattle.code.proofs.sums.fill_powers.Given as goal

abbrev pub invariant-loop-i : goal.invariant-loop-i
invariant-loop-i l = record {
  next_is : l.next ≡ alpha ten (l.from + l.i);
  done : (k : ℕ) → k < l.i → get_or l.powers k 0 ≡ alpha ten (l.from + k);
}
