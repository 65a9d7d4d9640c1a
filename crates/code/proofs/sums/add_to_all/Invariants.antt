-- The first i numbers are done, and the rest is as it was.
use Rattle.std.proofs.Common.{◌≡◌, ℕ, ◌<◌, ◌≤◌, get_or}
use Rattle.gf.specs.Field.{◌⊕◌}
use Rattle.code.proofs.sums.add_to_all.Given as goal

abbrev pub invariant-loop-i : goal.invariant-loop-i
invariant-loop-i l = record {
  done : (k : ℕ) → k < l.i → get_or l.sums k 0 ≡ get_or l.fn.sums k 0 ⊕ l.x;
  rest : (k : ℕ) → l.i ≤ k → get_or l.sums k 0 ≡ get_or l.fn.sums k 0;
}
