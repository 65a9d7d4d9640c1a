-- A byte string is a string of bits, and elements of m bits each are cut from it (RLCE-KEM specification of September 14, 2017, section 7.10).
use Rattle.std.specs.Prelude.{Bool, true, false, List, [], ◌∷◌, ◌++◌, ℕ, zero, suc, ◌+◌, ◌*◌, ◌/◌, ◌%◌, ◌^◌, ◌<◌, eqb, length, get_or, drop}

-- the w bits of x, the highest first
unfoldable pub bits_of : ℕ → ℕ → List ℕ
bits_of zero x = []
bits_of (suc w) x = x / 2 ^ w % 2 ∷ bits_of w x

-- the bits of numbers of w bits each, one number after the other
unfoldable pub bits : ℕ → List ℕ → List ℕ
bits w [] = []
bits w (x ∷ xs) = bits_of w x ++ bits w xs

-- the number that the first n bits of l write, the first of them its highest; past the end of l stand zeros
unfoldable pub value : ℕ → List ℕ → ℕ
value zero l = 0
value (suc n) l = value n l * 2 + get_or l n 0

-- the bits of l as n numbers of m bits each
unfoldable pub grouped : ℕ → ℕ → List ℕ → List ℕ
grouped zero m l = []
grouped (suc n) m l = value m l ∷ grouped n m (drop m l)

-- how many elements l bytes hold: those that are whole
abbrev pub elements_in : ℕ → ℕ → ℕ
elements_in m l = 8 * l / m

-- how many bytes f elements take
abbrev pub bytes_for : ℕ → ℕ → ℕ
bytes_for m f = (m * f + 7) / 8

-- bytes to elements (B2FE): floor(8L/m) of them; the bits that remain are dropped
unfoldable pub elements : ℕ → List ℕ → List ℕ
elements m bytes = grouped (elements_in m (length bytes)) m (bits 8 bytes)

-- elements to bytes (FE2B): ceil(mF/8) of them; spare bits are zero
unfoldable pub packed : ℕ → List ℕ → List ℕ
packed m es = grouped (bytes_for m (length es)) 8 (bits m es)

-- the m bits of the bytes at a bit place, as a number; past the end stand zeros
unfoldable pub bits_at : ℕ → List ℕ → ℕ → ℕ
bits_at m bytes place = value m (drop place (bits 8 bytes))

-- n elements from a bit place on: a part of a key
unfoldable pub elements_at : ℕ → ℕ → List ℕ → ℕ → List ℕ
elements_at n m bytes place = grouped n m (drop place (bits 8 bytes))

-- the 8L mod m bits that remain after the last whole element are zero
unfoldable pub tail_zero : ℕ → List ℕ → Bool
tail_zero m bytes = eqb (bits_at (8 * length bytes % m) bytes (m * elements_in m (length bytes))) 0

-- each of xs is below 2 ^ w, and so is the zero that is read past its end
abbrev pub Small : ℕ → List ℕ → Type 0
Small w xs = (i : ℕ) → get_or xs i 0 < 2 ^ w

-- a yes that says P, and a no that says that it is not so
abbrev pub Decided : Bool → Type 0 → Type 0
Decided true P = P
Decided false P = P → ⊥
