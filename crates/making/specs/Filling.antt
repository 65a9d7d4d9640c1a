-- The matrix on its way to the reduction, and the reduction's end.
use Rattle.std.specs.Prelude.{List, ℕ, ◌+◌, ◌-◌, get_or}
use Rattle.gf.specs.Field.{◌⊕◌, mul}
use Rattle.gf.specs.Ten.{ten}
use Rattle.sets.specs.declared.Set.{Set}
use Rattle.linear.specs.Elimination.{Done, eliminated}
use Rattle.scheme.specs.Matrices.{Matrix, listed, block_entry}
use Rattle.scheme.specs.Setup.{G0, multipliers, permutation1, random_matrix, chain}

-- the code's generator matrix with its columns multiplied
abbrev pub scaled : Set → List ℕ → Matrix
scaled s random i j = mul ten (G0 s i j) (get_or (multipliers s random) j 0)

-- then permuted by the first permutation
abbrev pub permuted : Set → List ℕ → Matrix
permuted s random i c = scaled s random i (get_or (permutation1 s random) c 0)

-- one side of a pair: a column of that matrix and a random column, multiplied by the pair's block of A
abbrev pub mixed : Set → List ℕ → List ℕ → ℕ → ℕ → ℕ → ℕ
mixed s random A i pair side =
    mul ten (permuted s random i (s.n - s.w + pair)) (block_entry A pair 0 side) ⊕ mul ten (random_matrix s random i pair) (block_entry A pair 1 side)

-- with the blocks A and the second permutation P2: the end of the reduction
abbrev pub reduction : Set → List ℕ → List ℕ → List ℕ → Done
reduction s random A P2 = eliminated ten s.k (s.n + s.w) s.k (listed s.k (s.n + s.w) (chain s random A P2))
