-- The numbers of a set that the mathematics goes by, and permutations.
use Rattle.std.specs.Prelude.{◌≡◌, ℕ, ◌+◌, ◌-◌, ◌≤◌, ◌<◌}

pub record Sizes : Type 0 where
  pub n : ℕ
  pub k : ℕ
  pub t : ℕ
  pub w : ℕ
  -- the code corrects t places: n - k = 2t
  pub code : n ≡ k + (t + t)
  -- at least k columns stay unmixed
  pub room : k + w ≤ n

-- N, the elements of a word that is sent: n of the code, w of R
abbrev pub total : Sizes → ℕ
total s = s.n + s.w

-- d, the columns that stay unmixed; the 2w others form w pairs
abbrev pub plain : Sizes → ℕ
plain s = s.n - s.w

-- p is a permutation of the numbers below r, and q its inverse
pub record Inverse (r : ℕ) (p q : ℕ → ℕ) : Type 0 where
  pub low : (i : ℕ) → i < r → p i < r
  pub low_back : (i : ℕ) → i < r → q i < r
  pub there : (i : ℕ) → i < r → q (p i) ≡ i
  pub back : (i : ℕ) → i < r → p (q i) ≡ i
