-- The matrix that setup reduces is one of elements, and GE is the right part of its reduced form.
use mathlib.Core.Path.{◌≡◌, ap₂, ◌∙◌}
use mathlib.Core.Bool.{Bool, true, false}
use mathlib.Core.List.{List}
use Prim.Native.Nat.{ℕ, ◌+◌, ◌-◌, ◌*◌, ◌/◌, ◌%◌, ◌^◌, ◌≤◌, ◌<◌}
use native.Mathlib.Nat.{mod-lt, div-lt_iff_lt-mul}
use native.Mathlib.Omega.{arith}
use native.Mathlib.Decide.{dec_lt}
use lib.Dec.{eqb, ltb}
use lib.Arith.{digits_div, digits_mod}
use lib.Pow.{pow_pos}
use lib.ListN.{length, get_or, get_or-eq_default}
use Rattle.lists.specs.Loops.{pick, tab}
use Rattle.lists.proofs.Tables.{length-tab, get_or-tab}
use Rattle.gf.specs.Field.{width, size}
use Rattle.gf.proofs.Xor.{add-lt}
use Rattle.gf.proofs.Ring.{mul-lt}
use Rattle.bits.specs.Bits.{Small}
use Rattle.sets.specs.declared.Set.{Set}
use Rattle.sets.specs.Valid.{Valid, key_elements}
use Rattle.linear.specs.Matrix as linear
use Rattle.linear.specs.Matrix.{entry}
use Rattle.linear.proofs.Laws.{tab-entry, tab-matrix}
use Rattle.scheme.specs.Field.{field_of}
use Rattle.scheme.specs.Matrices.{Matrix, listed, scale_columns, permute_columns, join_columns, multiply_pairs}
use Rattle.scheme.specs.Setup.{multipliers, random_matrix, permutation1, G0, chain, right_part}
use Rattle.demands.proofs.Reading.{within, outside}
use Rattle.demands.proofs.Drawing.{drawn-small}

-- ---- a matrix row after row
module _ (rows cols : ℕ) (M : Matrix) where
  pub listed-long : length (listed rows cols M) ≡ rows * cols
  unfolding listed
  listed-long = length-tab (rows * cols) _

  pub listed_at : (i j : ℕ) → i < rows → j < cols → entry cols (listed rows cols M) i j ≡ M i j
  unfolding listed
  listed_at i j hi hj =
      tab-entry rows cols (λ p. M (p / cols) (p % cols)) i j hi hj ∙ ap₂ M (digits_div i hj) (digits_mod i hj)

  pub listed_small : (w : ℕ) → 0 < cols → ((i j : ℕ) → i < rows → j < cols → M i j < 2 ^ w) → Small w (listed rows cols M)
  unfolding listed
  listed_small w some h p = go (dec_lt p (rows * cols))
    where
      go : Dec (p < rows * cols) → get_or (tab (rows * cols) (λ p. M (p / cols) (p % cols))) p 0 < 2 ^ w
      go (yes l) =
          let below : p / cols < rows = (div-lt_iff_lt-mul some).1 l in
          rw (get_or-tab (rows * cols) (λ p. M (p / cols) (p % cols)) p l) (h (p / cols) (p % cols) below (mod-lt p some))
      go (no n) =
          let past : length (tab (rows * cols) (λ p. M (p / cols) (p % cols))) ≤ p = rw length-tab (omega arith) in
          rw (get_or-eq_default (tab (rows * cols) (λ p. M (p / cols) (p % cols))) 0 past) (pow_pos w)

-- ---- the chain's entries are elements
module _ (s : Set) (e : width (field_of s) ≡ s.m) (random A P2 : List ℕ) where
  abbrev Elements : Matrix → Type 0
  Elements M = (i j : ℕ) → M i j < size (field_of s)

  scaled : (v : List ℕ) (M : Matrix) → Elements (scale_columns (field_of s) v M)
  unfolding scale_columns
  scaled v M i j = mul-lt (field_of s) _ _

  permuted : (P : List ℕ) (M : Matrix) → Elements M → Elements (permute_columns P M)
  unfolding permute_columns
  permuted P M h i j = h i _

  picked : (b : Bool) (x y : ℕ) → x < size (field_of s) → y < size (field_of s) → pick b x y < size (field_of s)
  picked true x y hx hy = hx
  picked false x y hx hy = hy

  joined : (d : ℕ) (R M : Matrix) → Elements R → Elements M → Elements (join_columns d R M)
  unfolding join_columns
  joined d R M hR hM i c = picked (ltb c d) _ _ (hM i c) (picked (eqb ((c - d) % 2) 0) _ _ (hM i _) (hR i _))

  multiplied : (d : ℕ) (M : Matrix) → Elements M → Elements (multiply_pairs (field_of s) d A M)
  unfolding multiply_pairs
  multiplied d M hM i c =
      picked (ltb c d) _ _ (hM i c) (add-lt (width (field_of s)) _ _ (mul-lt (field_of s) _ _) (mul-lt (field_of s) _ _))

  random-elements : Elements (random_matrix s random)
  unfolding random_matrix
  random-elements i j = within s e _ (drawn-small s random _)

  pub chain-elements : (i j : ℕ) → chain s random A P2 i j < size (field_of s)
  unfolding chain
  chain-elements =
      permuted P2 _ (multiplied (s.n - s.w) _ (joined (s.n - s.w) _ _ random-elements (permuted (permutation1 s random) _ (scaled (multipliers s random) (G0 s)))))

  pub chain-matrix : linear.Matrix (field_of s) s.k (s.n + s.w) (listed s.k (s.n + s.w) (chain s random A P2))
  unfolding listed
  chain-matrix = tab-matrix s.k (s.n + s.w) _ (field_of s) (λ p h. chain-elements _ _)

-- ---- the right part
module _ (s : Set) (ok : Valid s) (l : List ℕ) where
  pub right-long : length (right_part s l) ≡ key_elements s
  unfolding right_part
  right-long = listed-long s.k (s.n + s.w - s.k) _

  pub right-at : (i j : ℕ) → i < s.k → j < s.n + s.w - s.k → get_or (right_part s l) (i * (s.n + s.w - s.k) + j) 0 ≡ entry (s.n + s.w) l i (s.k + j)
  unfolding right_part
  right-at i j hi hj = listed_at s.k (s.n + s.w - s.k) (λ i j. entry (s.n + s.w) l i (s.k + j)) i j hi hj

  pub right-small : width (field_of s) ≡ s.m → linear.Matrix (field_of s) s.k (s.n + s.w) l → Small s.m (right_part s l)
  unfolding right_part
  right-small e M =
      listed_small s.k (s.n + s.w - s.k) _ s.m (omega (arith, ok.room, ok.some_w))
      (λ i j hi hj. outside s e _ (M.small i (s.k + j) hi (omega arith)))
