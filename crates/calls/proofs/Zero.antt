-- A bit-wise or with 0.
use mathlib.Core.Path.{◌≡◌}
use Prim.Native.Nat.{ℕ}
use Rattle.std.specs.Prelude.{bit_or}
use Rattle.std.specs.Int.Bits.{or_zero_r}

pub or_zero : (a : ℕ) → bit_or a 0 ≡ a
or_zero a = or_zero_r a
