-- A part of a list, and the list with another part in its place.
use Rattle.std.specs.Prelude.{List, ◌++◌, ◌≡◌, ℕ, ◌+◌, ◌≤◌, ◌<◌, length, get_or, take, drop}

-- k elements from a on
abbrev pub part : ℕ → ℕ → List ℕ → List ℕ
part a k l = take k (drop a l)

-- l with p in place of k elements from a on: what a slice holds after its part `&mut s[a..a + k]` was lent and came back as p
abbrev pub put : ℕ → ℕ → List ℕ → List ℕ → List ℕ
put a k p l = take a l ++ (p ++ drop k (drop a l))

-- the n elements from a on are f 0, f 1, .., and all others are as they were: what a step that writes a run leaves of l
pub record Wrote (a n : ℕ) (f : ℕ → ℕ) (l l' : List ℕ) : Type 0 where
  pub long : length l' ≡ length l
  pub there : (i : ℕ) → i < n → get_or l' (a + i) 0 ≡ f i
  pub elsewhere : (i : ℕ) → (a ≤ i → i < a + n → ⊥) → get_or l' i 0 ≡ get_or l i 0
