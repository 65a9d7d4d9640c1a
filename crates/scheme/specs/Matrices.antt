-- Key setup (RLCE-KEM specification of September 14, 2017, section 7.9): matrices as functions of row and column, and the chain from G0 to the matrix that is reduced.
use Rattle.std.specs.Prelude.{List, ℕ, ◌+◌, ◌-◌, ◌*◌, ◌/◌, ◌%◌, eqb, ltb, get_or}
use Rattle.lists.specs.Loops.{pick, tab}
use Rattle.gf.specs.Field.{Modulus, ◌⊕◌, mul}

abbrev pub Matrix : Type 0
Matrix = ℕ → ℕ → ℕ

-- row after row, as a list
unfoldable pub listed : ℕ → ℕ → Matrix → List ℕ
listed rows cols M = tab (rows * cols) (λ p. M (p / cols) (p % cols))

-- Multiply column i by v_i
unfoldable pub scale_columns : Modulus → List ℕ → Matrix → Matrix
scale_columns F v M i j = mul F (M i j) (get_or v j 0)

-- permute columns by P (new j is old P[j])
unfoldable pub permute_columns : List ℕ → Matrix → Matrix
permute_columns P M i j = M i (get_or P j 0)

-- put column j of R after column n-w+j; d = n - w, and column c from d on belongs to the pair (c - d) / 2
unfoldable pub join_columns : ℕ → Matrix → Matrix → Matrix
join_columns d R M i c =
    pick (ltb c d) (M i c) (pick (eqb ((c - d) % 2) 0) (M i (d + (c - d) / 2)) (R i ((c - d) / 2)))

-- entry (r, side) of block number `pair`; the blocks [a, b; c, d] stand one after the other as a, b, c, d
abbrev pub block_entry : List ℕ → ℕ → ℕ → ℕ → ℕ
block_entry A pair r side = get_or A (4 * pair + 2 * r + side) 0

-- multiply each such pair from the right by its block
unfoldable pub multiply_pairs : Modulus → ℕ → List ℕ → Matrix → Matrix
multiply_pairs F d A M i c =
    let pair = (c - d) / 2 in
    let side = (c - d) % 2 in
    pick (ltb c d) (M i c) (mul F (M i (d + 2 * pair)) (block_entry A pair 0 side) ⊕ mul F (M i (d + 2 * pair + 1)) (block_entry A pair 1 side))
