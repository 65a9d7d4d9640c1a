-- How the inner contracts say what the stages of decoding leave in their parts of the work area.
use Rattle.std.specs.Prelude.{◌≡◌, ◌≢◌, List, ℕ, zero, suc, ◌+◌, ◌<◌, ◌≤◌, length, get_or, set}
use Rattle.gf.specs.Field.{Modulus, ◌⊕◌, size, mul, power, alpha}
use Rattle.linear.specs.Matrix.{entry}
use Rattle.code.specs.Words.{sum_of}
use Rattle.code.specs.Decoding.{Near}

-- each number is an element of the field
pub record Elements (F : Modulus) (l : List ℕ) : Type 0 where
  pub small : (i : ℕ) → i < length l → get_or l i 0 < size F

-- each number is 0
pub record AllZero (l : List ℕ) : Type 0 where
  pub zero_at : (i : ℕ) → i < length l → get_or l i 0 ≡ 0

-- the powers of α from number `from` on
pub record Powers (F : Modulus) (from : ℕ) (l : List ℕ) : Type 0 where
  pub is : (j : ℕ) → j < length l → get_or l j 0 ≡ alpha F (from + j)

-- the power sums of the word from number `from` on
pub record PowerSums (F : Modulus) (word : List ℕ) (from : ℕ) (l : List ℕ) : Type 0 where
  pub is : (j : ℕ) → j < length l → get_or l j 0 ≡ sum_of F (length word) (λ i. get_or word i 0) (from + j)

-- row i of a system of equations was written: the coefficients, and the right side after them; the other rows are as they were
pub record Equation (i : ℕ) (left : List ℕ) (right : ℕ) (l l' : List ℕ) : Type 0 where
  pub coefficients : (j : ℕ) → j < length left → entry (length left + 1) l' i j ≡ get_or left j 0
  pub last : entry (length left + 1) l' i (length left) ≡ right
  pub others : (a b : ℕ) → a ≢ i → b < length left + 1 → entry (length left + 1) l' a b ≡ entry (length left + 1) l a b

-- the place p is added to the r places if the value is 0 and there is room
pub data Kept (p value : ℕ) (l : List ℕ) (r : ℕ) : List ℕ → ℕ → Type 0 where
  passed : (value ≡ 0 → ⊥) → Kept p value l r l r
  full : length l ≤ r → Kept p value l r l r
  kept : value ≡ 0 → r < length l → Kept p value l r (set l r p) (r + 1)

-- the first r numbers are the rising places below n where the value is 0; all of them, if there was room for more
pub record Collected (values : List ℕ) (n : ℕ) (l : List ℕ) (r : ℕ) : Type 0 where
  pub few : r ≤ length l
  pub below : (k : ℕ) → k < r → get_or l k 0 < n
  pub rising : (i k : ℕ) → i < k → k < r → get_or l i 0 < get_or l k 0
  pub root : (k : ℕ) → k < r → get_or values (get_or l k 0) 0 ≡ 0
  pub all : r < length l → (i : ℕ) → i < n → get_or values i 0 ≡ 0 → (k : ℕ) × (k < r) × (get_or l k 0 ≡ i)

-- a word of n elements whose power sums are these
pub record Summed (F : Modulus) (n : ℕ) (sums y : List ℕ) : Type 0 where
  pub long : length y ≡ n
  pub small : Elements F y
  pub sums_are : PowerSums F y 1 sums

-- rising places below n, at most half as many as the 2t sums, such that a code word near a word with these sums differs from it there only
pub record Suspects (F : Modulus) (n : ℕ) (sums places : List ℕ) : Type 0 where
  pub few : length places + length places ≤ length sums
  pub below : (k : ℕ) → k < length places → get_or places k 0 < n
  pub rising : (i k : ℕ) → i < k → k < length places → get_or places i 0 < get_or places k 0
  pub errors : (t : ℕ) (y c : List ℕ) → t + t ≡ length sums → Summed F n sums y → Near F n t y c → (i : ℕ) → i < n → ((k : ℕ) → k < length places → i ≢ get_or places k 0) → get_or c i 0 ≡ get_or y i 0

-- the first `rows` equations for the values: row i has the powers number i + 1 of the points, and sum i
pub record PowerRows (F : Modulus) (rows : ℕ) (points sums l : List ℕ) : Type 0 where
  pub there : (i j : ℕ) → i < rows → j < length points → entry (length points + 1) l i j ≡ power F (get_or points j 0) (i + 1)
  pub last : (i : ℕ) → i < rows → entry (length points + 1) l i (length points) ≡ get_or sums i 0

-- elements that a code word near a word with these sums differs by, at the places
pub record Values (F : Modulus) (n : ℕ) (sums places values : List ℕ) : Type 0 where
  pub small : (k : ℕ) → k < length places → get_or values k 0 < size F
  pub right : (t : ℕ) (y c : List ℕ) → t + t ≡ length sums → Summed F n sums y → Near F n t y c → (k : ℕ) → k < length places → get_or c (get_or places k 0) 0 ≡ get_or y (get_or places k 0) 0 ⊕ get_or values k 0

-- the first r values were added to the word at their places
pub record Added (places values : List ℕ) (r : ℕ) (l l' : List ℕ) : Type 0 where
  pub there : (k : ℕ) → k < r → get_or l' (get_or places k 0) 0 ≡ get_or l (get_or places k 0) 0 ⊕ get_or values k 0
  pub elsewhere : (i : ℕ) → ((k : ℕ) → k < r → i ≢ get_or places k 0) → get_or l' i 0 ≡ get_or l i 0

-- f 0, .., f (n - 1), added up
unfoldable pub total : ℕ → (ℕ → ℕ) → ℕ
total zero f = 0
total (suc n) f = total n f ⊕ f n

-- what the values at these points bring to the power sum number j
abbrev pub brought : Modulus → List ℕ → List ℕ → ℕ → ℕ
brought F values points j = total (length points) (λ k. mul F (get_or values k 0) (power F (get_or points k 0) j))
