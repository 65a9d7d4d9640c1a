-- The first i rows are filled, and `next` holds the powers of the next one.
use Rattle.std.proofs.Common.{◌≡◌, ℕ, ◌+◌, ◌<◌, length, get_or}
use Rattle.code.specs.Stages.{PowerRows}
use Rattle.gf.specs.Field.{power}
use Rattle.gf.specs.Ten.{ten}
use Rattle.code.proofs.values.power_rows.Given as goal

abbrev pub invariant-loop-i : goal.invariant-loop-i
invariant-loop-i l = record {
  rows : PowerRows ten l.i l.points l.sums l.matrix;
  powers : (j : ℕ) → j < length l.points → get_or l.next j 0 ≡ power ten (get_or l.points j 0) (l.i + 1);
}
