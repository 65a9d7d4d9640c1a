-- A private key over a field, and the opening's undoing (RLCE-KEM specification of September 14, 2017, section 6.3).
use Rattle.std.specs.Prelude.{◌≢◌, ℕ, ◌+◌, ◌-◌, ◌*◌, ◌<◌}
use Rattle.std.proofs.Math.Decide.{dec_lt}
use Rattle.theory.specs.Field.{Field}
use Rattle.theory.specs.Word.{pick}
use Rattle.pairs.specs.Sizes.{Sizes, plain, total, Inverse}

-- what a private key holds; p1 and p2 are not stored, they are the inverses of the stored lists
pub record Key (K : Field) : Type 0 where
  -- the inverses of P1 and P2
  pub q1 : ℕ → ℕ
  pub q2 : ℕ → ℕ
  pub p1 : ℕ → ℕ
  pub p2 : ℕ → ℕ
  -- the first column of each inverse block, upper then lower: entries 2i and 2i + 1 belong to block i
  pub columns : ℕ → K.F
  -- the inverses of the multipliers
  pub inverses : ℕ → K.F
  -- GE, by row and column; the public key holds the same
  pub ge : ℕ → ℕ → K.F

-- a key is malformed (7) unless its lists are permutations and no inverse is zero
pub record WellFormed (K : Field) (s : Sizes) (κ : Key K) : Type 0 where
  pub first : Inverse s.n κ.q1 κ.p1
  pub second : Inverse (total s) κ.q2 κ.p2
  pub nonzero : (i : ℕ) → i < s.n → κ.inverses i ≢ K.𝟎

module _ (K : Field) (s : Sizes) (κ : Key K) where
  open K use {F, add as ◌⊕◌, mul as ◌⊗◌, inv}

  infixl 65 ◌⊕◌
  infixl 70 ◌⊗◌
  -- section 6.3, steps 6 to 8: undo P2, multiply pairs by the stored column and keep one element of each
  unfoldable pub kept : (ℕ → F) → ℕ → F
  kept y j =
      let d = plain s in
      let at : ℕ → F = λ i. y (κ.q2 i) in
      pick (dec_lt j d) (at j) (at (d + 2 * (j - d)) ⊗ κ.columns (2 * (j - d)) ⊕ at (d + 2 * (j - d) + 1) ⊗ κ.columns (2 * (j - d) + 1))

  -- section 6.3, steps 9 and 10: undo P1, multiply by the stored inverses
  unfoldable pub undone : (ℕ → F) → ℕ → F
  undone y j = κ.inverses j ⊗ kept y (κ.q1 j)

  -- section 6.3, steps 14 and 15: a code word times the multipliers, in the order that P1 made
  unfoldable pub redone : (ℕ → F) → ℕ → F
  redone c j = c (κ.p1 j) ⊗ inv (κ.inverses (κ.p1 j))

  -- the place j is unmixed: its P2 value is below n - w
  abbrev pub Unmixed : ℕ → Type 0
  Unmixed j = κ.p2 j < plain s
