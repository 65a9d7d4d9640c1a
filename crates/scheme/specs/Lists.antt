-- Lists of numbers: selections, and the inverse of a permutation.
use Rattle.std.specs.Prelude.{Bool, false, ◌||◌, List, [], ◌∷◌, ◌++◌, ℕ, zero, suc, ◌+◌, eqb, length, replicate}
use Rattle.lists.specs.Loops.{pick}
use Rattle.perm.specs.Perm.{inverted}

-- the list without its zeros
unfoldable pub non_zero : List ℕ → List ℕ
non_zero [] = []
non_zero (x ∷ l) = pick (eqb x 0) (non_zero l) (x ∷ non_zero l)

-- the list has the number
unfoldable pub has : List ℕ → ℕ → Bool
has [] i = false
has (x ∷ l) i = eqb x i || has l i

-- those of the n numbers i, i + 1, .. that pass the test, rising
unfoldable pub passing : (ℕ → Bool) → ℕ → ℕ → List ℕ
passing p i zero = []
passing p i (suc n) = passing p i n ++ pick (p (i + n)) ((i + n) ∷ []) []

-- section 7.8, permu_inv: For i = 0, .., u - 1, let P^-1[P[i]] = i
abbrev pub inverse_of : List ℕ → List ℕ
inverse_of P = inverted P (replicate (length P) 0)
