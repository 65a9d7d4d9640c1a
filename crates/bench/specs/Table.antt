-- Known values, as one table over the definitions of the field, packing, shuffling and the block search.
use Rattle.std.specs.Prelude.{◌≡◌, List, [], ◌∷◌, ℕ, ◌/◌, length, get_or, drop}
use Rattle.gf.specs.Field.{mul}
use Rattle.gf.specs.Ten.{ten}
use Rattle.bits.specs.Bits.{elements, packed}
use Rattle.perm.specs.Shuffle.{shuffled}
use Rattle.scheme.specs.Lists.{inverse_of}
use Rattle.scheme.specs.Setup.{Found, found, none, blocks, det}

-- a line of the table: what the definitions give, and the known value
pub record Line : Type 0 where
  pub given : List ℕ
  pub stated : List ℕ

abbrev pub line : List ℕ → List ℕ → Line
line g s = record { given = g; stated = s }

-- a line on one number
abbrev pub single : ℕ → ℕ → Line
single g s = line (g ∷ []) (s ∷ [])

-- the elements of the blocks that a search found, a, b, c, d of each; nothing where it found none
abbrev pub elements_of : Found → List ℕ
elements_of (found l) = l
elements_of none = []

-- u = 5, bytes 00 03 00 02 and bytes 00 07: a shuffle of u places by all 16-bit numbers of the bytes
abbrev pub shuffle_by : ℕ → List ℕ → List ℕ
shuffle_by u bytes = shuffled bytes u (length bytes / 2)

-- the elements of the block search
abbrev pub searched : List ℕ
searched = 1 ∷ 1 ∷ 1 ∷ 1 ∷ 2 ∷ []

-- the table; b is any byte
unfoldable pub table : ℕ → List Line
table b =
    -- 512·2 = 9; 3·3 = 5; 2·516 = 1; 512·512 = 274; 0·7 = 0
    single (mul ten 512 2) 9 ∷
    single (mul ten 3 3) 5 ∷
    single (mul ten 2 516) 1 ∷
    single (mul ten 512 512) 274 ∷
    single (mul ten 0 7) 0 ∷
    -- bytes FF C0 01 give 1023, 0; those give back FF C0 00
    line (elements 10 (0xFF ∷ 0xC0 ∷ 0x01 ∷ [])) (1023 ∷ 0 ∷ []) ∷
    line (packed 10 (1023 ∷ 0 ∷ [])) (0xFF ∷ 0xC0 ∷ 0x00 ∷ []) ∷
    -- elements 1, 2 give 00 40 20
    line (packed 10 (1 ∷ 2 ∷ [])) (0x00 ∷ 0x40 ∷ 0x20 ∷ []) ∷
    -- no bytes give no elements; one byte gives none
    line (elements 10 []) [] ∷
    line (elements 10 (b ∷ [])) [] ∷
    -- u = 5, bytes 00 03 00 02: 3 0 2 1 4; its inverse 1 3 2 0 4
    line (shuffle_by 5 (0x00 ∷ 0x03 ∷ 0x00 ∷ 0x02 ∷ [])) (3 ∷ 0 ∷ 2 ∷ 1 ∷ 4 ∷ []) ∷
    line (inverse_of (3 ∷ 0 ∷ 2 ∷ 1 ∷ 4 ∷ [])) (1 ∷ 3 ∷ 2 ∷ 0 ∷ 4 ∷ []) ∷
    -- u = 5, bytes 00 07: first entry 2
    single (get_or (shuffle_by 5 (0x00 ∷ 0x07 ∷ [])) 0 0) 2 ∷
    -- elements 1 1 1 1 2, one block wanted: [1, 1; 1, 2], after one move: the first four are no block, those one place on are
    line (elements_of (blocks ten 1 searched)) (1 ∷ 1 ∷ 1 ∷ 2 ∷ []) ∷
    single (det ten 1 1 1 1) 0 ∷
    line (elements_of (blocks ten 1 (drop 1 searched))) (1 ∷ 1 ∷ 1 ∷ 2 ∷ []) ∷
    single (det ten 1 1 1 2) 3 ∷ []

-- every line of a table holds
abbrev pub Holds : List Line → Type 0
Holds [] = Unit
Holds (l ∷ ls) = (l.given ≡ l.stated) × Holds ls

-- the same values by name
pub record BenchValues : Type 0 where
  pub product_512_2 : mul ten 512 2 ≡ 9
  pub product_3_3 : mul ten 3 3 ≡ 5
  pub product_2_516 : mul ten 2 516 ≡ 1
  pub product_512_512 : mul ten 512 512 ≡ 274
  pub product_0_7 : mul ten 0 7 ≡ 0
  pub unpacked : elements 10 (0xFF ∷ 0xC0 ∷ 0x01 ∷ []) ≡ 1023 ∷ 0 ∷ []
  pub packed_back : packed 10 (1023 ∷ 0 ∷ []) ≡ 0xFF ∷ 0xC0 ∷ 0x00 ∷ []
  pub packed_1_2 : packed 10 (1 ∷ 2 ∷ []) ≡ 0x00 ∷ 0x40 ∷ 0x20 ∷ []
  pub no_bytes : elements 10 [] ≡ []
  pub one_byte : (b : ℕ) → elements 10 (b ∷ []) ≡ []
  pub shuffle : shuffle_by 5 (0x00 ∷ 0x03 ∷ 0x00 ∷ 0x02 ∷ []) ≡ 3 ∷ 0 ∷ 2 ∷ 1 ∷ 4 ∷ []
  pub shuffle_inverse : inverse_of (3 ∷ 0 ∷ 2 ∷ 1 ∷ 4 ∷ []) ≡ 1 ∷ 3 ∷ 2 ∷ 0 ∷ 4 ∷ []
  pub first_entry : get_or (shuffle_by 5 (0x00 ∷ 0x07 ∷ [])) 0 0 ≡ 2
  pub block : blocks ten 1 searched ≡ found (1 ∷ 1 ∷ 1 ∷ 2 ∷ [])
  pub one_move : blocks ten 1 searched ≡ blocks ten 1 (drop 1 searched)
  pub not_first : det ten 1 1 1 1 ≡ 0
