-- How unpacking and packing go: notions that only contracts of inner functions use.
use Rattle.std.specs.Prelude.{◌≡◌, List, ℕ, ◌+◌, ◌*◌, ◌/◌, ◌<◌, ◌≤◌, length, get_or}
use Rattle.bits.specs.Bits.{bits_at}

-- the first n elements from a bit place on are written, and they fill whole groups of five bytes
pub record Begun (m : ℕ) (s : List ℕ) (place n : ℕ) (out : List ℕ) : Type 0 where
  pub within : n ≤ length out
  pub written : (k : ℕ) → k < n → get_or out k 0 ≡ bits_at m s (place + m * k)
  pub groups : 8 * (n / 4 * 5) ≡ m * n

-- each of xs is below the limit
abbrev pub Below : ℕ → List ℕ → Type 0
Below limit xs = (i : ℕ) → i < length xs → get_or xs i 0 < limit
