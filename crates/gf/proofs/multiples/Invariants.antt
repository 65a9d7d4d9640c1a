-- The first i multiples are written, and `next` is the next one.
use Rattle.std.proofs.Common.{◌≡◌, ℕ, ◌%◌, ◌<◌, length, get_or}
use Rattle.gf.specs.Field.{size, shift}
use Rattle.gf.specs.Ten.{ten}
use Rattle.gf.proofs.multiples.Given as goal

abbrev pub invariant-loop-i : goal.invariant-loop-i
invariant-loop-i l = record {
  long : length l.t ≡ 10;
  next_is : l.next ≡ shift ten l.i (l.f % size ten);
  done : (k : ℕ) → k < l.i → get_or l.t k 0 ≡ shift ten k (l.f % size ten);
}
