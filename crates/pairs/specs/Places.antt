-- The places I and T by which opening solves for the mixed part of a vector.
use Rattle.std.specs.Prelude.{◌≡◌, ℕ, ◌≤◌, ◌<◌}

-- I 0, .., I (u - 1) are, rising, all the numbers from lo up to hi at which A holds
pub record Listed (A : ℕ → Type 0) (lo hi u : ℕ) (I : ℕ → ℕ) : Type 0 where
  pub rising : (a b : ℕ) → a < b → b < u → I a < I b
  pub from : (a : ℕ) → a < u → lo ≤ I a
  pub under : (a : ℕ) → a < u → I a < hi
  pub holds : (a : ℕ) → a < u → A (I a)
  pub every : (i : ℕ) → lo ≤ i → i < hi → A i → (a : ℕ) × (a < u) × (i ≡ I a)

-- Let I and J be the places below k with P2 value at least n-w, and below it; T the first u places from k up with P2 value below n-w.
-- Here A holds at the places that are read off: I lists the u others below k, and T are, rising, u of those from k up to N
pub record Split (k N : ℕ) (A : ℕ → Type 0) (u : ℕ) (I T : ℕ → ℕ) : Type 0 where
  pub solved : Listed (λ i. ¬ A i) 0 k u I
  pub rising : (a b : ℕ) → a < b → b < u → T a < T b
  pub high : (b : ℕ) → b < u → k ≤ T b
  pub low : (b : ℕ) → b < u → T b < N
  pub read : (b : ℕ) → b < u → A (T b)
