-- Places that pass a test, listed in a room that may be too short.
use Rattle.std.specs.Prelude.{◌≡◌, List, ℕ, ◌<◌, length, get_or}

-- the places L stand in `out`, as many as it has room for, and r is how many there are in all
pub record Listed (L out : List ℕ) (r : ℕ) : Type 0 where
  pub count : r ≡ length L
  pub there : (a : ℕ) → a < r → a < length out → get_or out a 0 ≡ get_or L a 0
