-- The mask generator and a mask laid over a byte string: RLCE-KEM specification of September 14, 2017, sections 7.4 and 7.13.
use Rattle.std.specs.Prelude.{ℕ, zero, suc, ◌+◌, ◌/◌, ◌%◌, ◌^◌, List, [], ◌∷◌, ◌++◌, length, take, bit_xor, slice_index}
use Rattle.lists.specs.Loops.{tab}
use Rattle.hash.specs.Sha.{sha512}

-- section 7.3: I2BS (n, 4), the four bytes of n, the highest first
unfoldable pub bytes4 : ℕ → List ℕ
bytes4 n = n / 2 ^ 24 % 256 ∷ n / 2 ^ 16 % 256 ∷ n / 2 ^ 8 % 256 ∷ n % 256 ∷ []

-- section 7.4, step 2: T after the counters 0 .. n - 1, each the digest of the seed and the counter
unfoldable pub stream : List ℕ → ℕ → List ℕ
stream seed zero = []
stream seed (suc n) = stream seed n ++ sha512 (seed ++ bytes4 n)

-- section 7.4: RLCE_MGF (seed, len), the first len bytes of T after ⌈len / 64⌉ counters
unfoldable pub mgf : List ℕ → ℕ → List ℕ
mgf seed len = take len (stream seed ((len + 63) / 64))

-- section 7.13: s ⊕ mask, byte by byte
unfoldable pub xored : List ℕ → List ℕ → List ℕ
xored s mask = tab (length s) (λ i. bit_xor (slice_index s i) (slice_index mask i))
