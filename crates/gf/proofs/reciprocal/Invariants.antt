-- r times the squares that are left is the inverse.
use Rattle.std.proofs.Common.{◌≡◌, ◌-◌, ◌<◌}
use Rattle.gf.proofs.Powers.{squares}
use Rattle.gf.specs.Field.{size, mul, inverse}
use Rattle.gf.specs.Ten.{ten}
use Rattle.gf.proofs.reciprocal.Given as goal

abbrev pub invariant-loop : goal.invariant-loop
invariant-loop l = record {
  small : l.r < size ten;
  left : mul ten l.r (squares ten (9 - l.counter) l.s) ≡ inverse ten l.a;
}
