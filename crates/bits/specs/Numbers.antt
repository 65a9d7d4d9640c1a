-- 16-bit numbers in a byte string, the high byte first (RLCE-KEM specification of September 14, 2017, sections 7.2 and 7.3).
use Rattle.std.specs.Prelude.{List, [], ◌∷◌, ℕ, ◌+◌, ◌*◌, ◌/◌, ◌%◌, length, get_or}
use Rattle.lists.specs.Loops.{tab}

-- number i of the byte string
abbrev pub number16 : List ℕ → ℕ → ℕ
number16 bytes i = get_or bytes (2 * i) 0 * 256 + get_or bytes (2 * i + 1) 0

-- all numbers of a byte string; an odd byte at its end is in none
unfoldable pub numbers16 : List ℕ → List ℕ
numbers16 bytes = tab (length bytes / 2) (number16 bytes)

-- numbers as bytes, two each
unfoldable pub bytes16 : List ℕ → List ℕ
bytes16 [] = []
bytes16 (x ∷ xs) = x / 256 % 256 ∷ x % 256 ∷ bytes16 xs
