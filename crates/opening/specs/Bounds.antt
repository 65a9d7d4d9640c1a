-- The lists of a prepared key as indices: how long they are, and what they point at.
use Rattle.std.specs.Prelude.{◌≡◌, ◌≢◌, List, ℕ, ◌+◌, ◌-◌, ◌<◌, ◌≤◌, length, get_or}
use Rattle.sets.specs.declared.Set.{Set}
use Rattle.sets.specs.Valid.{key_elements}
use Rattle.scheme.specs.Keys.{Private}

-- of a well-formed key κ: GE, P1, P2, the places I and the places T
pub record Bounds (s : Set) (κ : Private) (ge first second mixed plain : List ℕ) : Type 0 where
  pub ge_long : length ge ≡ key_elements s
  pub first_long : length first ≡ s.n
  pub second_long : length second ≡ s.n + s.w
  pub as_many : length plain ≡ length mixed
  pub few : length mixed ≤ s.k
  pub q1_low : (j : ℕ) → j < s.n → get_or κ.q1 j 0 < s.n
  pub q2_low : (i : ℕ) → i < s.n + s.w → get_or κ.q2 i 0 < s.n + s.w
  pub first_low : (j : ℕ) → j < s.n → get_or first j 0 < s.n
  pub mixed_low : (a : ℕ) → a < length mixed → get_or mixed a 0 < s.k
  pub mixed_apart : (a b : ℕ) → a < b → b < length mixed → get_or mixed a 0 ≢ get_or mixed b 0
  pub plain_high : (b : ℕ) → b < length plain → s.k ≤ get_or plain b 0
  pub plain_low : (b : ℕ) → b < length plain → get_or plain b 0 < s.n + s.w
  -- P2 does not mix the places of T
  pub plain_read : (b : ℕ) → b < length plain → get_or second (get_or plain b 0) 0 < s.n - s.w
