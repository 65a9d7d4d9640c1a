use Rattle.std.proofs.Common.{◌≡◌, ℕ, ◌+◌, ◌-◌, ◌*◌, ◌<◌, get_or}
use Rattle.opening.proofs.matrix.fill_rows.Given as goal

abbrev pub invariant-loop-a : goal.invariant-loop-a
invariant-loop-a l = (a b : ℕ) → a < l.a → b < l.u → get_or l.matrix (a * (l.u + l.u) + b) 0 ≡ get_or l.ge (get_or l.mixed a 0 * l.columns + (get_or l.plain b 0 - l.k)) 0

abbrev pub invariant-loop-b : goal.invariant-loop-b
invariant-loop-b l = record {
  rows : (a b : ℕ) → a < l.a → b < l.u → get_or l.matrix (a * (l.u + l.u) + b) 0 ≡ get_or l.ge (get_or l.mixed a 0 * l.columns + (get_or l.plain b 0 - l.k)) 0;
  row : (b : ℕ) → b < l.b → get_or l.matrix (l.a * (l.u + l.u) + b) 0 ≡ get_or l.ge (get_or l.mixed l.a 0 * l.columns + (get_or l.plain b 0 - l.k)) 0;
}
