-- Matrices: functions from a row's number to the row, looked at below r rows and m columns. Elementary row operations and what they
-- are judged by, up to the echelon format of the RLCE-KEM specification of September 14, 2017, section 6.1.2.
use Rattle.std.specs.Prelude.{◌≡◌, ◌≢◌, ℕ, ◌≤◌, ◌<◌}
use Rattle.std.proofs.Math.Decide.{dec_lt}
use Rattle.theory.specs.Field.{Field}
use Rattle.theory.specs.Word.{pick, put, sum}

-- f, with the values at i and k exchanged: of a matrix, rows i and k
unfoldable pub swap : {B : Type 0} → (ℕ → B) → ℕ → ℕ → ℕ → B
swap f i k = put (put f i (f k)) k (f i)

module _ (K : Field) where
  open K use {F, 𝟎, 𝟏, add as ◌⊕◌, mul as ◌⊗◌}

  infixl 65 ◌⊕◌
  infixl 70 ◌⊗◌
  abbrev pub Row : Type 0
  Row = ℕ → F

  abbrev pub Mat : Type 0
  Mat = ℕ → Row

  -- M, with a times row k added to row i
  unfoldable pub add_row : Mat → ℕ → ℕ → F → Mat
  add_row M i k a = put M i (λ c. M i c ⊕ a ⊗ M k c)

  -- M, with row i multiplied by a
  unfoldable pub scale_row : Mat → ℕ → F → Mat
  scale_row M i a = put M i (λ c. a ⊗ M i c)

  -- M and N have the same entries below r rows and m columns
  abbrev pub Agree : ℕ → ℕ → Mat → Mat → Type 0
  Agree r m M N = (i c : ℕ) → i < r → c < m → M i c ≡ N i c

  -- x·M, the combination of the first r rows with the factors x 0, .., x (r - 1)
  unfoldable pub comb : Row → Mat → ℕ → Row
  comb x M r c = sum K (λ i. x i ⊗ M i c) r

  -- v is in the right kernel: M·v is zero at each of the r rows
  abbrev pub Ker : ℕ → ℕ → Mat → Row → Type 0
  Ker r m M v = (i : ℕ) → i < r → sum K (λ c. M i c ⊗ v c) m ≡ 𝟎

  -- y is in the left kernel: y·M is zero at each of the m columns
  abbrev pub LeftKer : ℕ → ℕ → Mat → Row → Type 0
  LeftKer r m M y = (c : ℕ) → c < m → comb y M r c ≡ 𝟎

  -- a predicate on rows that sums and multiples keep
  pub record Linear (L : Row → Type 0) : Type 0 where
    pub plus : (u v : Row) → L u → L v → L (λ c. u c ⊕ v c)
    pub times : (a : F) (u : Row) → L u → L (λ c. a ⊗ u c)

  -- a predicate on rows that looks at the first m columns only
  abbrev pub Narrow : ℕ → (Row → Type 0) → Type 0
  Narrow m L = (u w : Row) → ((c : ℕ) → c < m → u c ≡ w c) → L u → L w

  -- L holds of each of the r rows
  abbrev pub Rows : (Row → Type 0) → ℕ → Mat → Type 0
  Rows L r M = (i : ℕ) → i < r → L (M i)

  -- no combination of the r rows but that of zero satisfies P
  abbrev pub Inj : (Row → Type 0) → ℕ → Mat → Type 0
  Inj P r M = (x : Row) → P (comb x M r) → (i : ℕ) → i < r → x i ≡ 𝟎

  -- the first j columns are those of the unit matrix: at j = k the echelon format [I, GE] of section 6.1.2
  pub record UnitBelow (r j : ℕ) (M : Mat) : Type 0 where
    pub one_at : (c : ℕ) → c < j → M c c ≡ 𝟏
    pub zero_off : (i c : ℕ) → i < r → c < j → i ≢ c → M i c ≡ 𝟎

  -- elimination stops at column j: the columns before it are unit, and it has no entry from row j down
  pub record Stopped (r j : ℕ) (M : Mat) : Type 0 where
    pub done : UnitBelow r j M
    pub none : (i : ℕ) → i < r → j ≤ i → M i j ≡ 𝟎

  -- the kernel vector that is read off there: M[0][j], .., M[j-1][j], 1, 0, ..
  unfoldable pub stop_vector : ℕ → Mat → Row
  stop_vector j M = put (λ c. pick (dec_lt c j) (M c j) 𝟎) j 𝟏

-- the matrices with r rows, looked at in m columns, that come from A by row operations
pub data Steps (K : Field) (r m : ℕ) (A : ℕ → ℕ → K.F) : (ℕ → ℕ → K.F) → Type 0 where
  start : Steps K r m A A
  added : {M : ℕ → ℕ → K.F} (i k : ℕ) (a : K.F) → i < r → k < r → i ≢ k → Steps K r m A M → Steps K r m A (add_row K M i k a)
  scaled : {M : ℕ → ℕ → K.F} (i : ℕ) (a : K.F) → i < r → a ≢ K.𝟎 → Steps K r m A M → Steps K r m A (scale_row K M i a)
  swapped : {M : ℕ → ℕ → K.F} (i k : ℕ) → i < r → k < r → i ≢ k → Steps K r m A M → Steps K r m A (swap M i k)
  agreeing : {M N : ℕ → ℕ → K.F} → Agree K r m M N → Steps K r m A M → Steps K r m A N
