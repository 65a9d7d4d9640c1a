-- Key setup (RLCE-KEM specification of September 14, 2017, sections 6.1.3 and 7.6 to 7.9): from random bytes to a key pair, or to the refusal that ends it.
use Rattle.std.specs.Prelude.{List, [], ◌∷◌, ℕ, zero, suc, ◌+◌, ◌-◌, ◌*◌, eqb, leb, ltb, length, get_or, take, drop}
use Rattle.lists.specs.Loops.{pick, first}
use Rattle.gf.specs.Field.{Modulus, ◌⊕◌, mul, inverse}
use Rattle.bits.specs.Bits.{elements, bytes_for}
use Rattle.perm.specs.Shuffle.{shuffled}
use Rattle.sets.specs.declared.Set.{Set}
use Rattle.sets.specs.Valid.{setup_elements}
use Rattle.linear.specs.Matrix.{entry}
use Rattle.linear.specs.Elimination.{eliminated}
use Rattle.code.specs.Generator.{generator}
use Rattle.scheme.specs.declared.Refusal.{Refusal}
use Rattle.scheme.specs.declared.Refusal.TheVariants.{FewMultipliers, FewElements, NoWindow, Dependent}
use Rattle.scheme.specs.Lists.{non_zero, inverse_of}
use Rattle.scheme.specs.Field.{field_of}
use Rattle.scheme.specs.Matrices.{Matrix, listed, scale_columns, permute_columns, join_columns, multiply_pairs}
use Rattle.scheme.specs.Keys.{Private, public_key, private_key}

-- ---- what is drawn from the random bytes

-- The elements number nRE = n + (4+k)w + 25 and fill the first ceil(m·nRE/8) random bytes
unfoldable pub drawn : Set → List ℕ → List ℕ
drawn s random = elements s.m (take (bytes_for s.m (setup_elements s)) random)

-- Multipliers v: the first n non-zero of elements 0 to n+4; those that are there, and the first n of them
unfoldable pub usable : Set → List ℕ → List ℕ
usable s random = non_zero (take (s.n + 5) (drawn s random))

unfoldable pub multipliers : Set → List ℕ → List ℕ
multipliers s random = take s.n (usable s random)

-- Blocks: drop zeros from elements n+5 to n+4w+24
unfoldable pub block_elements : Set → List ℕ → List ℕ
block_elements s random = non_zero (take (4 * s.w + 20) (drop (s.n + 5) (drawn s random)))

-- the determinant ad - bc of [a, b; c, d]
abbrev pub det : Modulus → ℕ → ℕ → ℕ → ℕ → ℕ
det F a b c d = mul F a d ⊕ mul F b c

-- what a search for blocks ends with: a, b, c, d of each block, one after the other, or nothing
pub data Found : Type 0 where
  found : List ℕ → Found
  none : Found

abbrev pub with_block : ℕ → ℕ → ℕ → ℕ → Found → Found
with_block a b c d (found l) = found (a ∷ b ∷ c ∷ d ∷ l)
with_block a b c d none = none

-- From place j take four as [a, b; c, d]; if ad - bc = 0, move j up by one; otherwise it is the next two-by-two block, and j moves up by four.
-- Fewer than four left before w blocks: 4. The list is what stands from place j on.
unfoldable pub blocks : Modulus → ℕ → List ℕ → Found
blocks F zero l = found []
blocks F (suc w) (a ∷ b ∷ c ∷ d ∷ l) =
    pick (eqb (det F a b c d) 0) (blocks F (suc w) (b ∷ c ∷ d ∷ l)) (with_block a b c d (blocks F w l))
blocks F (suc w) (a ∷ b ∷ c ∷ []) = none
blocks F (suc w) (a ∷ b ∷ []) = none
blocks F (suc w) (a ∷ []) = none
blocks F (suc w) [] = none

-- R[i][j] is element n+4w+25 + jk + i
unfoldable pub random_matrix : Set → List ℕ → Matrix
random_matrix s random i j = get_or (drawn s random) (s.n + 4 * s.w + 25 + j * s.k + i) 0

-- P1 uses n-1 numbers from the bytes after the elements
unfoldable pub permutation1 : Set → List ℕ → List ℕ
permutation1 s random = shuffled (drop (bytes_for s.m (setup_elements s)) random) s.n (s.n - 1)

-- P2 uses the n+w-1 numbers that start 2n-2+p bytes after the elements
unfoldable pub permutation2 : Set → List ℕ → ℕ → List ℕ
permutation2 s random p =
    shuffled (drop (bytes_for s.m (setup_elements s) + (2 * s.n - 2 + p)) random) (s.n + s.w) (s.n + s.w - 1)

-- u, the count of i below k with P2[i] >= n-w; here i below `most`
unfoldable pub mixed_below : ℕ → ℕ → List ℕ → ℕ
mixed_below d zero P2 = 0
mixed_below d (suc i) P2 = mixed_below d i P2 + pick (leb d (get_or P2 i 0)) 1 0

abbrev pub mixed : Set → List ℕ → ℕ
mixed s P2 = mixed_below (s.n - s.w) s.k P2

-- for the first p in 0..4 where u is at most u0; 5 where there is none
unfoldable pub window : Set → List ℕ → ℕ
window s random = first (λ p. leb (mixed s (permutation2 s random p)) s.u0) 5 0

-- ---- the matrices

-- G0 is row shifts of the product of (x - α^i), i = 1..n-k: row i has the product's coefficients from column i on
unfoldable pub G0 : Set → Matrix
G0 s i j = pick (ltb j i) 0 (get_or (generator (field_of s) (s.n - s.k)) (j - i) 0)

-- the chain of key setup up to the matrix that is reduced
unfoldable pub chain : Set → List ℕ → List ℕ → List ℕ → Matrix
chain s random A P2 =
    let F = field_of s in
    let d = s.n - s.w in
    permute_columns P2
    (multiply_pairs F d A
    (join_columns d (random_matrix s random)
    (permute_columns (permutation1 s random)
    (scale_columns F (multipliers s random) (G0 s)))))

-- the columns from k on of a reduced matrix of k rows and n + w columns: GE by rows
unfoldable pub right_part : Set → List ℕ → List ℕ
right_part s l = listed s.k (s.n + s.w - s.k) (λ i j. entry (s.n + s.w) l i (s.k + j))

-- ---- the key pair

-- the first column of each inverse block (upper, lower): of [a, b; c, d] they are d/(ad - bc) and c/(ad - bc)
unfoldable pub inverse_columns : Modulus → List ℕ → List ℕ
inverse_columns F (a ∷ b ∷ c ∷ d ∷ l) =
    mul F d (inverse F (det F a b c d)) ∷ mul F c (inverse F (det F a b c d)) ∷ inverse_columns F l
inverse_columns F (a ∷ b ∷ c ∷ []) = []
inverse_columns F (a ∷ b ∷ []) = []
inverse_columns F (a ∷ []) = []
inverse_columns F [] = []

-- the inverse of each element
unfoldable pub inverses : Modulus → List ℕ → List ℕ
inverses F [] = []
inverses F (x ∷ l) = inverse F x ∷ inverses F l

-- what setup ends with: a key pair and its count p+1, or a refusal
pub data Made : Type 0 where
  made : (public private : List ℕ) (count : ℕ) → Made
  fails : Refusal → Made

-- with the blocks A and the window p, after the reduction
unfoldable pub reduced_pair : Set → List ℕ → List ℕ → ℕ → Made
reduced_pair s random A p =
    let F = field_of s in
    let P2 = permutation2 s random p in
    let e = eliminated F s.k (s.n + s.w) s.k (listed s.k (s.n + s.w) (chain s random A P2)) in
    let ge = right_part s e.mat in
    let κ : Private = record {
      q1 = inverse_of (permutation1 s random);
      q2 = inverse_of P2;
      columns = inverse_columns F A;
      inverses = inverses F (multipliers s random);
      ge = ge;
    } in
    pick (ltb e.cols s.k) (fails Dependent) (made (public_key s ge) (private_key s κ) (p + 1))

unfoldable pub with_blocks : Set → List ℕ → Found → Made
with_blocks s random none = fails FewElements
with_blocks s random (found A) =
    pick (ltb (window s random) 5) (reduced_pair s random A (window s random)) (fails NoWindow)

-- setup, for random bytes of the set's length
unfoldable pub setup : Set → List ℕ → Made
setup s random =
    pick (ltb (length (usable s random)) s.n) (fails FewMultipliers)
    (with_blocks s random (blocks (field_of s) s.w (block_elements s random)))
