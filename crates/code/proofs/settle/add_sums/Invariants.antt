-- The first j sums are done, the rest is as it was, and each value is multiplied by its point j times.
use Rattle.std.proofs.Common.{◌≡◌, ℕ, ◌+◌, ◌<◌, ◌≤◌, length, get_or}
use Rattle.code.specs.Stages.{brought}
use Rattle.gf.specs.Field.{◌⊕◌, mul, power}
use Rattle.gf.specs.Ten.{ten}
use Rattle.code.proofs.settle.add_sums.Given as goal

abbrev pub invariant-loop-j : goal.invariant-loop-j
invariant-loop-j l = record {
  done : (i : ℕ) → i < l.j → get_or l.sums i 0 ≡ get_or l.fn.sums i 0 ⊕ brought ten l.fn.values l.points (1 + i);
  rest : (i : ℕ) → l.j ≤ i → get_or l.sums i 0 ≡ get_or l.fn.sums i 0;
  products : (k : ℕ) → k < length l.points → get_or l.values k 0 ≡ mul ten (get_or l.fn.values k 0) (power ten (get_or l.points k 0) l.j);
}
