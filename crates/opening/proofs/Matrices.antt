-- Places of rows that lie one after the other.
use mathlib.Core.Path.{◌≡◌, ◌∙◌}
use mathlib.Core.Logic.{◌≢◌}
use mathlib.Core.List.{List}
use Prim.Native.Nat.{ℕ, ◌+◌, ◌-◌, ◌*◌, ◌≤◌, ◌<◌}
use native.Mathlib.Omega.{arith}
use native.Mathlib.Nat.{mul-le-mul_right, mul-le-mul_left}
use native.Mathlib.Decide.{dec_lt}
use lib.ListN.{length, get_or, set, take, drop, length-drop}
use lib.Seq.{get_or-set_same, get_or-set_other, length-take-le}

-- row a ends by the end of k rows
pub row_fits : (a k m : ℕ) → a < k → a * m + m ≤ k * m
row_fits a k m h = omega (arith, mul-le-mul_right {m = a + 1} {n = k} m (omega arith))

-- place b of row i lies before row a
pub row_apart : (i b a m : ℕ) → i < a → b < m → i * m + b < a * m
row_apart i b a m h g = omega (arith, row_fits i a m h)

-- another cell of a row
pub cells_more : (at b : ℕ) (l : List ℕ) (f : ℕ → ℕ) (v : ℕ) → at + b < length l → ((y : ℕ) → y < b → get_or l (at + y) 0 ≡ f y) → v ≡ f b
    → (y : ℕ) → y < b + 1 → get_or (set l (at + b) v) (at + y) 0 ≡ f y
cells_more at b l f v fits old new y h = go (dec_lt y b)
  where
    go : Dec (y < b) → get_or (set l (at + b) v) (at + y) 0 ≡ f y
    go (yes lt) = get_or-set_other l (at + b) (at + y) v 0 (omega arith) ∙ old y lt
    go (no d) = let e : y ≡ b = omega arith in rw e (get_or-set_same l (at + b) v 0 fits ∙ new)

-- it leaves the rows before as they were
pub cell_kept : (a b u : ℕ) (l : List ℕ) (v : ℕ) (x y : ℕ) → x < a → y < u → get_or (set l (a * (u + u) + b) v) (x * (u + u) + y) 0 ≡ get_or l (x * (u + u) + y) 0
cell_kept a b u l v x y hx hy =
    get_or-set_other l (a * (u + u) + b) (x * (u + u) + y) v 0 (omega (arith, row_apart x y a (u + u) hx (omega arith)))

-- a smaller matrix with its inverse
pub square : (u k : ℕ) → u ≤ k → u * (u + u) ≤ k * (k + k)
square u k h = omega (arith, mul-le-mul_right {m = u} {n = k} (u + u) h, mul-le-mul_left {m = u + u} {n = k + k} k (omega arith))

pub rows_within : (i k cols m n : ℕ) → m ≡ cols → n ≡ k * cols → i < k → i * m + m ≤ n
rows_within i k cols m n e f h = rw (e, f) (row_fits i k cols h)

-- the right half of row i
pub half_within : (i u : ℕ) (m : List ℕ) → length m ≡ u * (u + u) → i < u → i * (u + u) + u ≤ length (take (length m - u) (drop u m))
half_within i u m e h =
    let n : length (drop u m) ≡ length m - u = length-drop u m in
    let l : length (take (length m - u) (drop u m)) ≡ length m - u = length-take-le (length m - u) (drop u m) (omega arith) in
    omega (arith, row_fits i u (u + u) h)

-- the numbers v come to the places p, which differ
module _ (p v l : List ℕ) (j : ℕ) (apart : (a b : ℕ) → a < b → b < length p → get_or p a 0 ≢ get_or p b 0) (lt : j < length p) where
  pub spread_there : ((a : ℕ) → a < j → get_or l (get_or p a 0) 0 ≡ get_or v a 0) → get_or p j 0 < length l
      → (a : ℕ) → a < j + 1 → get_or (set l (get_or p j 0) (get_or v j 0)) (get_or p a 0) 0 ≡ get_or v a 0
  spread_there old fits a h = go (dec_lt a j)
    where
      go : Dec (a < j) → get_or (set l (get_or p j 0) (get_or v j 0)) (get_or p a 0) 0 ≡ get_or v a 0
      go (yes g) = get_or-set_other l (get_or p j 0) (get_or p a 0) (get_or v j 0) 0 (apart a j g lt) ∙ old a g
      go (no d) = let e : a ≡ j = omega arith in rw e (get_or-set_same l (get_or p j 0) (get_or v j 0) 0 fits)

  pub spread_others : (l₀ : List ℕ) → ((i : ℕ) → ((a : ℕ) → a < j → i ≢ get_or p a 0) → get_or l i 0 ≡ get_or l₀ i 0)
      → (i : ℕ) → ((a : ℕ) → a < j + 1 → i ≢ get_or p a 0) → get_or (set l (get_or p j 0) (get_or v j 0)) i 0 ≡ get_or l₀ i 0
  spread_others l₀ old i n =
      get_or-set_other l (get_or p j 0) i (get_or v j 0) 0 (n j (omega arith)) ∙ old i (λ a h. n a (omega arith))
