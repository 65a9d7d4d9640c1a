-- Undoing a row of the chain's matrix gives back the row of G0: both permutations, the blocks and their stored columns, the multipliers
-- and their inverses cancel, and R drops out.
use mathlib.Core.Path.{◌≡◌, sym, ap, ◌∙◌}
use Prim.Native.Nat.{ℕ, ◌+◌, ◌-◌, ◌*◌, ◌/◌, ◌%◌, ◌≤◌, ◌<◌}
use native.Mathlib.Omega.{arith}
use native.Mathlib.Decide.{dec_lt, ℕ_discrete}
use Rattle.theory.specs.Field.{Field}
use Rattle.theory.specs.Code.{G0}
use Rattle.theory.specs.Matrix.{Mat}
use Rattle.theory.proofs.Field.{ring, mul-one, inv-ne-zero}
use Rattle.theory.proofs.Place.{pick_yes, pick_no, below_or}
use Rattle.pairs.specs.Sizes.{Sizes, total, plain}
use Rattle.pairs.specs.Key.{Key, WellFormed, kept, undone}
use Rattle.pairs.specs.Chain.{Blocks, det, scale_columns, permute_columns, join_columns, multiply_pairs, chain, Stored}
use Rattle.pairs.proofs.Undo.{kept-plain, kept_pair}

module _ (K : Field) (d : ℕ) where
  open K use {add as ◌⊕◌, mul as ◌⊗◌}

  infixl 65 ◌⊕◌
  infixl 70 ◌⊗◌
  -- the columns of pair number p: one of the matrix, one of R
  join-plain : (R M : Mat K) (i c : ℕ) → c < d → join_columns K d R M i c ≡ M i c
  unfolding join_columns
  join-plain R M i c l = pick_yes (dec_lt c d) _ _ l

  join_first : (R M : Mat K) (i p : ℕ) → join_columns K d R M i (d + 2 * p) ≡ M i (d + p)
  unfolding join_columns
  join_first R M i p =
      let h : (d + 2 * p - d) / 2 ≡ p = omega arith in
      pick_no (dec_lt (d + 2 * p) d) _ _ (omega arith) ∙ pick_yes (ℕ_discrete ((d + 2 * p - d) % 2) 0) _ _ (omega arith) ∙ rw h

  join-second : (R M : Mat K) (i p : ℕ) → join_columns K d R M i (d + 2 * p + 1) ≡ R i p
  unfolding join_columns
  join-second R M i p =
      let h : (d + 2 * p + 1 - d) / 2 ≡ p = omega arith in
      pick_no (dec_lt (d + 2 * p + 1) d) _ _ (omega arith) ∙ pick_no (ℕ_discrete ((d + 2 * p + 1 - d) % 2) 0) _ _ (omega arith) ∙ rw h

  -- the pair times its block [a, b; c, d]: (x, y) becomes (x·a + y·c, x·b + y·d)
  multiply-plain : (A : Blocks K) (M : Mat K) (i c : ℕ) → c < d → multiply_pairs K d A M i c ≡ M i c
  unfolding multiply_pairs
  multiply-plain A M i c l = pick_yes (dec_lt c d) _ _ l

  multiply-first : (A : Blocks K) (M : Mat K) (i p : ℕ)
      → multiply_pairs K d A M i (d + 2 * p) ≡ M i (d + 2 * p) ⊗ A p 0 0 ⊕ M i (d + 2 * p + 1) ⊗ A p 1 0
  unfolding multiply_pairs
  multiply-first A M i p =
      let h : (d + 2 * p - d) / 2 ≡ p = omega arith in
      let g : (d + 2 * p - d) % 2 ≡ 0 = omega arith in
      pick_no (dec_lt (d + 2 * p) d) _ _ (omega arith) ∙ rw (h, g)

  multiply-second : (A : Blocks K) (M : Mat K) (i p : ℕ)
      → multiply_pairs K d A M i (d + 2 * p + 1) ≡ M i (d + 2 * p) ⊗ A p 0 1 ⊕ M i (d + 2 * p + 1) ⊗ A p 1 1
  unfolding multiply_pairs
  multiply-second A M i p =
      let h : (d + 2 * p + 1 - d) / 2 ≡ p = omega arith in
      let g : (d + 2 * p + 1 - d) % 2 ≡ 1 = omega arith in
      pick_no (dec_lt (d + 2 * p + 1) d) _ _ (omega arith) ∙ rw (h, g)

module _ (K : Field) (s : Sizes) (v : ℕ → K.F) (A : Blocks K) (κ : Key K) (st : Stored K s v A κ) where
  open K use {F, add as ◌⊕◌, mul as ◌⊗◌, inv}

  infixl 65 ◌⊕◌
  infixl 70 ◌⊗◌
  -- what setup stores is well formed
  pub stored-well-formed : WellFormed K s κ
  stored-well-formed =
      record {
        first = st.first;
        second = st.second;
        nonzero = λ i l e. inv-ne-zero K (v i) (st.usable i l) (sym (st.inverted i l) ∙ e);
      }

  -- a pair times its block, times the stored column, is the pair's first element
  pair-kept : (x y : F) (p : ℕ) → p < s.w
      → (x ⊗ A p 0 0 ⊕ y ⊗ A p 1 0) ⊗ κ.columns (2 * p) ⊕ (x ⊗ A p 0 1 ⊕ y ⊗ A p 1 1) ⊗ κ.columns (2 * p + 1) ≡ x
  unfolding det
  pair-kept x y p l =
      rw (st.upper p l, st.lower p l) (group (inv (det K A p)) ∙ rw (K.mul_inv (det K A p) (st.block p l)) (mul-one K x))
    where
      group : (i : F) → (x ⊗ A p 0 0 ⊕ y ⊗ A p 1 0) ⊗ (A p 1 1 ⊗ i) ⊕ (x ⊗ A p 0 1 ⊕ y ⊗ A p 1 1) ⊗ (A p 1 0 ⊗ i) ≡ x ⊗ (det K A p ⊗ i)
      group i = simp ring

  module _ (α : F) (R : Mat K) where
    -- the matrix before R comes in, and before the second permutation
    before : Mat K
    before = permute_columns K κ.p1 (scale_columns K v (G0 K α (s.n - s.k)))

    joined : Mat K
    joined = multiply_pairs K (plain s) A (join_columns K (plain s) R before)

    chain-at : (i p : ℕ) → p < total s → chain K s α v κ.p1 R A κ.p2 i (κ.q2 p) ≡ joined i p
    unfolding chain permute_columns joined before
    chain-at i p l = ap (joined i) (st.second.there p l)

    kept-chain : (i j : ℕ) → j < s.n → kept K s κ (chain K s α v κ.p1 R A κ.p2 i) j ≡ before i j
    unfolding joined
    kept-chain i j l = below_or j (plain s) low high
      where
        low : j < plain s → kept K s κ (chain K s α v κ.p1 R A κ.p2 i) j ≡ before i j
        low b =
            kept-plain K s κ _ j b ∙ chain-at i j (omega arith) ∙ multiply-plain K (plain s) A _ i j b ∙ join-plain K (plain s) R before i j b

        high : plain s ≤ j → kept K s κ (chain K s α v κ.p1 R A κ.p2 i) j ≡ before i j
        high b =
            let p = j - plain s in
            let e : j ≡ plain s + p = omega arith in
            kept_pair K s κ _ j p e
            ∙ rw (chain-at i (plain s + 2 * p) (omega arith), chain-at i (plain s + 2 * p + 1) (omega arith), joined, multiply-first K (plain s) A (join_columns K (plain s) R before) i p, multiply-second K (plain s) A (join_columns K (plain s) R before) i p, join_first K (plain s) R before i p, join-second K (plain s) R before i p) (pair-kept _ _ p (omega arith))
            ∙ ap (before i) (sym e)

    -- THEOREM (chain, undone). The opening's undoing takes row i of the chain's matrix to row i of G0.
    pub undone-chain : (i j : ℕ) → j < s.n → undone K s κ (chain K s α v κ.p1 R A κ.p2 i) j ≡ G0 K α (s.n - s.k) i j
    unfolding undone before permute_columns scale_columns
    undone-chain i j l =
        rw (undone, kept-chain i (κ.q1 j) (st.first.low j l), before, permute_columns, scale_columns, st.first.there j l, st.inverted j l) (group ∙ rw (K.mul_inv (v j) (st.usable j l)) (mul-one K _))
      where
        group : inv (v j) ⊗ (G0 K α (s.n - s.k) i j ⊗ v j) ≡ G0 K α (s.n - s.k) i j ⊗ (v j ⊗ inv (v j))
        group = simp ring
