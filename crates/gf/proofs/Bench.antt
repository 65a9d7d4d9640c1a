-- Known products and an inverse, from the definitions, by computation.
use mathlib.Core.Path.{◌≡◌, refl}
use Rattle.gf.specs.Field.{times_x, act, mul}
use Rattle.gf.specs.Ten.{ten}

pub record Bench : Type 0 where
  pub reduced : mul ten 512 2 ≡ 9
  pub square : mul ten 3 3 ≡ 5
  pub inverses : mul ten 2 516 ≡ 1
  pub top : mul ten 512 512 ≡ 274
  pub zero : mul ten 0 7 ≡ 0

pub bench : Bench
unfolding mul act times_x
bench = record { reduced = refl; square = refl; inverses = refl; top = refl; zero = refl }
