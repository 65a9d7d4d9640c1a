-- The first i elements are done, and the rest is as it was.
use Rattle.std.proofs.Common.{◌≡◌, ℕ, ◌<◌, ◌≤◌, get_or}
use Rattle.gf.specs.Field.{mul}
use Rattle.gf.specs.Ten.{ten}
use Rattle.gf.proofs.multiply.Given as goal

abbrev pub invariant-loop-i : goal.invariant-loop-i
invariant-loop-i l = record {
  done : (k : ℕ) → k < l.i → get_or l.row k 0 ≡ mul ten (get_or l.fn.row k 0) (get_or l.by k 0);
  rest : (k : ℕ) → l.i ≤ k → get_or l.row k 0 ≡ get_or l.fn.row k 0;
}
