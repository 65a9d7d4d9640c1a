-- Sealing (RLCE-KEM specification of September 14, 2017, section 6.2): the ciphertext of a message, a pad seed and t places, and the first random block that fits.
use Rattle.std.specs.Prelude.{List, [], ◌∷◌, ◌++◌, Bool, not, ℕ, zero, suc, ◌+◌, ◌-◌, ◌*◌, ◌/◌, eqb, ltb, length, get_or, take, drop, replicate}
use Rattle.lists.specs.Loops.{pick, tab, first}
use Rattle.lists.specs.Parts.{part}
use Rattle.gf.specs.Field.{Modulus, ◌⊕◌, mul}
use Rattle.bits.specs.Bits.{elements, packed}
use Rattle.bits.specs.Numbers.{bytes16}
use Rattle.perm.specs.Shuffle.{shuffled}
use Rattle.sets.specs.declared.Set.{Set}
use Rattle.scheme.specs.Lists.{has, passing}
use Rattle.scheme.specs.Field.{field_of}
use Rattle.scheme.specs.Padding.{padded}
use Rattle.scheme.specs.Keys.{public_ge}

-- ---- the word of a vector

-- the sum of x_i·M(i) over i below k
unfoldable pub combined : Modulus → List ℕ → ℕ → (ℕ → ℕ) → ℕ
combined F x zero M = 0
combined F x (suc k) M = combined F x k M ⊕ mul F (get_or x k 0) (M k)

-- entry j of x·[I, GE]: the vector itself, then its products with the columns of GE
unfoldable pub encoded : Set → List ℕ → List ℕ → ℕ → ℕ
encoded s ge x j =
    pick (ltb j s.k) (get_or x j 0) (combined (field_of s) x s.k (λ i. get_or ge (i * (s.n + s.w - s.k) + (j - s.k)) 0))

-- the error value at place j: that of the first of the places that is j, and 0 where there is none
unfoldable pub error_at : List ℕ → List ℕ → ℕ → ℕ
error_at [] values j = 0
error_at (p ∷ places) [] j = 0
error_at (p ∷ places) (v ∷ values) j = pick (eqb p j) v (error_at places values j)

-- the word of n + w elements that is sent
unfoldable pub sent : Set → List ℕ → List ℕ → List ℕ → List ℕ → List ℕ
sent s ge x places values = tab (s.n + s.w) (λ j. encoded s ge x j ⊕ error_at places values j)

-- ---- the ciphertext of a triple

-- The places string is the t places, rising, two bytes each. The padded string gives k + t elements: the message vector, then the error values
unfoldable pub triple_elements : Set → List ℕ → List ℕ → List ℕ → List ℕ
triple_elements s msg seed places = elements s.m (padded s msg seed (bytes16 places))

unfoldable pub error_values : Set → List ℕ → List ℕ → List ℕ → List ℕ
error_values s msg seed places = drop s.k (triple_elements s msg seed places)

-- the ciphertext of message, pad seed and rising places under GE
unfoldable pub ciphertext : Set → List ℕ → List ℕ → List ℕ → List ℕ → List ℕ
ciphertext s ge msg seed places =
    packed s.m (sent s ge (take s.k (triple_elements s msg seed places)) places (error_values s msg seed places))

-- ---- random blocks

-- pad seed from k3 bytes, t places from the first t entries of a shuffle of n+w; the places rising
abbrev pub block_seed : Set → List ℕ → List ℕ
block_seed s block = take s.k3 block

unfoldable pub block_places : Set → List ℕ → List ℕ
block_places s block = passing (has (take s.t (shuffled (drop s.k3 block) (s.n + s.w) s.t))) 0 (s.n + s.w)

-- random block number b
abbrev pub block_at : Set → List ℕ → ℕ → List ℕ
block_at s random b = part (s.block * b) s.block random

-- A block with any zero error value is passed over
unfoldable pub fits : Set → List ℕ → List ℕ → Bool
fits s msg block = not (has (error_values s msg (block_seed s block) (block_places s block)) 0)

-- the number of the first block that fits; the number of blocks where none does
unfoldable pub first_fitting : Set → List ℕ → List ℕ → ℕ
first_fitting s msg random = first (λ b. fits s msg (block_at s random b)) (length random / s.block) 0

-- the ciphertext that block b gives
unfoldable pub sealed_by : Set → List ℕ → List ℕ → List ℕ → ℕ → List ℕ
sealed_by s key msg random b =
    let block = block_at s random b in
    ciphertext s (public_ge s key) msg (block_seed s block) (block_places s block)

-- section 6.4: the secret, then zero bytes up to k1
unfoldable pub secret_message : Set → List ℕ → List ℕ
secret_message s secret = secret ++ replicate (s.k1 - length secret) 0
