-- The first i rows are filled.
use Rattle.std.proofs.Common.{◌≡◌, ℕ, ◌+◌, ◌<◌, get_or}
use Rattle.linear.specs.Matrix.{entry}
use Rattle.code.proofs.places.key_rows.Given as goal

abbrev pub invariant-loop-i : goal.invariant-loop-i
invariant-loop-i l = (a b : ℕ) → a < l.i → b < l.t + 1 → entry (l.t + 1) l.matrix a b ≡ get_or l.sums (a + b) 0
