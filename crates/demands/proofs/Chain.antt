-- The chain of setup, from the generator to the matrix that is reduced, is that of `pairs` on elements.
use mathlib.Core.Path.{◌≡◌, refl, sym, ap, ap₂, ◌∙◌, fun_ext}
use mathlib.Core.List.{List}
use Prim.Native.Nat.{ℕ, ◌*◌, ◌-◌, ◌%◌}
use native.Mathlib.Omega.{arith}
use lib.ListN.{get_or}
use Rattle.theory.specs.Word.{pow}
use Rattle.theory.specs.Code as theory
use Rattle.gf.specs.Field.{alpha}
use Rattle.gf.proofs.Elements.{El, plus, el-xor, el-mul}
use Rattle.sets.specs.declared.Set.{Set}
use Rattle.sets.specs.Valid.{Valid}
use Rattle.code.proofs.Bridge.{X, point-pow}
use Rattle.code.proofs.Shifts.{α, generator-is}
use Rattle.scheme.specs.Field.{field_of}
use Rattle.scheme.specs.Matrices.{Matrix, scale_columns, permute_columns, join_columns, multiply_pairs, block_entry}
use Rattle.scheme.specs.Setup.{multipliers, random_matrix, permutation1, G0, chain}
use Rattle.pairs.specs.Chain as pairs
use Rattle.tie.proofs.Choices.{pick-lt, pick-eq}
use Rattle.tie.proofs.Bridge.{field, K, E, word, sizes}

module _ (s : Set) where
  -- α as an element; its powers are the points of the code
  abbrev pub alpha_of : El (field_of s)
  alpha_of = α (field s)

  pub alpha-el : (i : ℕ) → X (field_of s) (field s) i ≡ pow (K s) alpha_of i
  alpha-el i =
      let q : 1 * i ≡ i = omega arith in
      sym (point-pow (field_of s) (field s) 1 i ∙ ap (λ (x : ℕ). E s (alpha (field_of s) x)) q)

  -- ---- the generator, shifted
  pub G0-el : (i j : ℕ) → E s (G0 s i j) ≡ theory.G0 (K s) alpha_of (s.n - s.k) i j
  unfolding G0 theory.G0 theory.shifted
  G0-el i j = pick-lt (E s) j i refl (generator-is (field s) (s.n - s.k) (j - i))

  -- ---- the steps of the chain

  -- a matrix of numbers as one of elements
  abbrev entries : Matrix → ℕ → ℕ → El (field_of s)
  entries M i j = E s (M i j)

  scale-el : (v : List ℕ) (M : Matrix) (i j : ℕ) → entries (scale_columns (field_of s) v M) i j ≡ pairs.scale_columns (K s) (word s v) (entries M) i j
  unfolding scale_columns pairs.scale_columns
  scale-el v M i j = el-mul _ (field s) _ _

  permute-el : (P : List ℕ) (M : Matrix) (i j : ℕ) → entries (permute_columns P M) i j ≡ pairs.permute_columns (K s) (λ j. get_or P j 0) (entries M) i j
  unfolding permute_columns pairs.permute_columns
  permute-el P M i j = refl

  join-el : (d : ℕ) (R M : Matrix) (i j : ℕ) → entries (join_columns d R M) i j ≡ pairs.join_columns (K s) d (entries R) (entries M) i j
  unfolding join_columns pairs.join_columns
  join-el d R M i j = pick-lt (E s) j d refl (pick-eq (E s) ((j - d) % 2) 0 refl refl)

  -- the blocks, as elements
  abbrev pub blocks_of : List ℕ → pairs.Blocks (K s)
  blocks_of A pair r side = E s (block_entry A pair r side)

  multiply-el : (d : ℕ) (A : List ℕ) (M : Matrix) (i j : ℕ) → entries (multiply_pairs (field_of s) d A M) i j ≡ pairs.multiply_pairs (K s) d (blocks_of A) (entries M) i j
  unfolding multiply_pairs pairs.multiply_pairs
  multiply-el d A M i j =
      pick-lt (E s) j d refl (el-xor _ (field s) _ _ ∙ ap₂ (plus (field_of s)) (el-mul _ (field s) _ _) (el-mul _ (field s) _ _))

  whole : {M N : ℕ → ℕ → El (field_of s)} → ((i j : ℕ) → M i j ≡ N i j) → M ≡ N
  whole h = fun_ext (λ i. fun_ext (λ j. h i j))

  -- ---- the chain
  pub chain-el : (ok : Valid s) (random A P2 : List ℕ) → entries (chain s random A P2)
      ≡ pairs.chain (K s) (sizes ok) alpha_of (word s (multipliers s random)) (λ j. get_or (permutation1 s random) j 0) (entries (random_matrix s random)) (blocks_of A) (λ j. get_or P2 j 0)
  unfolding chain pairs.chain
  chain-el ok random A P2 =
      let d = s.n - s.w in
      let p1 : ℕ → ℕ = λ j. get_or (permutation1 s random) j 0 in
      whole (permute-el P2 _)
      ∙ ap (pairs.permute_columns (K s) (λ j. get_or P2 j 0))
      (whole (multiply-el d A _) ∙ ap (pairs.multiply_pairs (K s) d (blocks_of A))
      (whole (join-el d (random_matrix s random) _) ∙ ap (pairs.join_columns (K s) d (entries (random_matrix s random)))
      (whole (permute-el (permutation1 s random) _) ∙ ap (pairs.permute_columns (K s) p1)
      (whole (scale-el (multipliers s random) (G0 s)) ∙ ap (pairs.scale_columns (K s) (word s (multipliers s random))) (whole G0-el)))))
