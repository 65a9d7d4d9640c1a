-- Key setup (RLCE-KEM specification of September 14, 2017, section 7.9): the chain from G0 to the matrix that is reduced, and what a key keeps of it.
use Rattle.std.specs.Prelude.{◌≡◌, ◌≢◌, ℕ, ◌+◌, ◌-◌, ◌*◌, ◌/◌, ◌%◌, ◌<◌}
use Rattle.std.proofs.Math.Decide.{dec_lt, ℕ_discrete}
use Rattle.theory.specs.Field.{Field}
use Rattle.theory.specs.Word.{pick}
use Rattle.theory.specs.Code.{G0}
use Rattle.theory.specs.Matrix.{Mat}
use Rattle.pairs.specs.Sizes.{Sizes, plain, total, Inverse}
use Rattle.pairs.specs.Key.{Key}

module _ (K : Field) where
  open K use {F, add as ◌⊕◌, mul as ◌⊗◌}

  infixl 65 ◌⊕◌
  infixl 70 ◌⊗◌
  -- the two-by-two blocks: entry (r, side) of block number `pair`
  abbrev pub Blocks : Type 0
  Blocks = ℕ → ℕ → ℕ → F

  -- the determinant ad - bc of block [a, b; c, d]
  unfoldable pub det : Blocks → ℕ → F
  det A pair = A pair 0 0 ⊗ A pair 1 1 ⊕ A pair 0 1 ⊗ A pair 1 0

  -- Multiply column i by v_i
  unfoldable pub scale_columns : (ℕ → F) → Mat K → Mat K
  scale_columns v M i j = M i j ⊗ v j

  -- permute columns by P (new j is old P[j])
  unfoldable pub permute_columns : (ℕ → ℕ) → Mat K → Mat K
  permute_columns P M i j = M i (P j)

  -- put column j of R after column n-w+j; d = n - w, and column c from d on belongs to the pair (c - d) / 2
  unfoldable pub join_columns : ℕ → Mat K → Mat K → Mat K
  join_columns d R M i c =
      pick (dec_lt c d) (M i c) (pick (ℕ_discrete ((c - d) % 2) 0) (M i (d + (c - d) / 2)) (R i ((c - d) / 2)))

  -- multiply each such pair from the right by its block
  unfoldable pub multiply_pairs : ℕ → Blocks → Mat K → Mat K
  multiply_pairs d A M i c =
      let pair = (c - d) / 2 in
      let side = (c - d) % 2 in
      pick (dec_lt c d) (M i c) (M i (d + 2 * pair) ⊗ A pair 0 side ⊕ M i (d + 2 * pair + 1) ⊗ A pair 1 side)

  -- the chain up to the matrix that is reduced, from G0 of the powers of α
  unfoldable pub chain : Sizes → F → (v : ℕ → F) (p1 : ℕ → ℕ) (R : Mat K) (A : Blocks) (p2 : ℕ → ℕ) → Mat K
  chain s α v p1 R A p2 =
      permute_columns p2
      (multiply_pairs (plain s) A (join_columns (plain s) R (permute_columns p1 (scale_columns v (G0 K α (s.n - s.k))))))

-- what a key keeps of the multipliers v and the blocks A: inverse of P1, inverse of P2; the first column of each inverse block (upper,
-- lower); inverses of v; of [a, b; c, d] the column is d/(ad - bc) and c/(ad - bc)
pub record Stored (K : Field) (s : Sizes) (v : ℕ → K.F) (A : Blocks K) (κ : Key K) : Type 0 where
  pub first : Inverse s.n κ.q1 κ.p1
  pub second : Inverse (total s) κ.q2 κ.p2
  pub usable : (i : ℕ) → i < s.n → v i ≢ K.𝟎
  pub block : (i : ℕ) → i < s.w → det K A i ≢ K.𝟎
  pub upper : (i : ℕ) → i < s.w → κ.columns (2 * i) ≡ K.mul (A i 1 1) (K.inv (det K A i))
  pub lower : (i : ℕ) → i < s.w → κ.columns (2 * i + 1) ≡ K.mul (A i 1 0) (K.inv (det K A i))
  pub inverted : (i : ℕ) → i < s.n → κ.inverses i ≡ K.inv (v i)
