-- Words are lists of field elements. Code words (RLCE-KEM specification of September 14, 2017, section 6.1.3, step 7), by their power sums, and how far two words are apart.
use Rattle.std.specs.Prelude.{◌≡◌, List, [], ℕ, zero, suc, ◌+◌, ◌*◌, ◌<◌, eqb, length, get_or}
use Rattle.lists.specs.Loops.{pick}
use Rattle.gf.specs.Field.{Modulus, ◌⊕◌, size, mul, alpha}

-- c 0 + c 1·α^j + c 2·α^(2j) + .., n terms
unfoldable pub sum_of : Modulus → ℕ → (ℕ → ℕ) → ℕ → ℕ
sum_of F zero c j = 0
sum_of F (suc n) c j = sum_of F n c j ⊕ mul F (c n) (alpha F (n * j))

-- a syndrome: the sum of c_i·α^(ij) over the places i below n of a word, its polynomial's value at α^j
abbrev pub power_sum : Modulus → ℕ → List ℕ → ℕ → ℕ
power_sum F n word j = sum_of F n (λ i. get_or word i 0) j

-- section 6.1.3, step 7: the roots of g(x) are α^j for j = 1..n-k, and
-- the code is the words (c_0..c_{n-1}) whose sum of c_i·α^(ij) is 0 for j = 1..n-k; here s = n - k
pub record CodeWord (F : Modulus) (n s : ℕ) (word : List ℕ) : Type 0 where
  pub long : length word ≡ n
  pub small : (i : ℕ) → i < n → get_or word i 0 < size F
  pub sums : (j : ℕ) → j < s → power_sum F n word (suc j) ≡ 0

-- the Hamming distance: at how many of the places below n two words differ
unfoldable pub apart : ℕ → List ℕ → List ℕ → ℕ
apart zero a b = 0
apart (suc n) a b = apart n a b + pick (eqb (get_or a n 0) (get_or b n 0)) 0 1

-- the Hamming weight, as in section 6.3, step 21, how many of the places below n are not zero: how far the word is from that of zeros, as which the empty list reads
abbrev pub weight : ℕ → List ℕ → ℕ
weight n word = apart n word []
