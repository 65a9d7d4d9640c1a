-- FIPS 180-4: the operations on words of 64 bits. A word is a number below 2 ^ 64.
use Rattle.std.specs.Prelude.{ℕ, ◌+◌, ◌-◌, ◌*◌, ◌/◌, ◌%◌, ◌^◌, bit_and, bit_or, bit_xor}

-- 3.2, 2: x + y, the sum modulo 2 ^ 64
unfoldable pub add : ℕ → ℕ → ℕ
add x y = (x + y) % 2 ^ 64

-- 2.2.2: ¬ x
abbrev pub complement : ℕ → ℕ
complement x = 2 ^ 64 - 1 - x

-- 2.2.2: x << n, the n highest bits dropped, n zero bits after the lowest
abbrev pub shl : ℕ → ℕ → ℕ
shl n x = (x * 2 ^ n) % 2 ^ 64

-- 3.2, 3: SHR n (x) = x >> n
abbrev pub shr : ℕ → ℕ → ℕ
shr n x = x / 2 ^ n

-- 3.2, 4: ROTR n (x) = (x >> n) ∨ (x << (64 - n))
unfoldable pub rotr : ℕ → ℕ → ℕ
rotr n x = bit_or (shr n x) (shl (64 - n) x)

-- (4.8): Ch (x, y, z) = (x ∧ y) ⊕ (¬ x ∧ z)
unfoldable pub ch : ℕ → ℕ → ℕ → ℕ
ch x y z = bit_xor (bit_and x y) (bit_and (complement x) z)

-- (4.9): Maj (x, y, z) = (x ∧ y) ⊕ (x ∧ z) ⊕ (y ∧ z)
unfoldable pub maj : ℕ → ℕ → ℕ → ℕ
maj x y z = bit_xor (bit_xor (bit_and x y) (bit_and x z)) (bit_and y z)

-- (4.10): Σ0 (x) = ROTR 28 (x) ⊕ ROTR 34 (x) ⊕ ROTR 39 (x)
unfoldable pub bsig0 : ℕ → ℕ
bsig0 x = bit_xor (bit_xor (rotr 28 x) (rotr 34 x)) (rotr 39 x)

-- (4.11): Σ1 (x) = ROTR 14 (x) ⊕ ROTR 18 (x) ⊕ ROTR 41 (x)
unfoldable pub bsig1 : ℕ → ℕ
bsig1 x = bit_xor (bit_xor (rotr 14 x) (rotr 18 x)) (rotr 41 x)

-- (4.12): σ0 (x) = ROTR 1 (x) ⊕ ROTR 8 (x) ⊕ SHR 7 (x)
unfoldable pub ssig0 : ℕ → ℕ
ssig0 x = bit_xor (bit_xor (rotr 1 x) (rotr 8 x)) (shr 7 x)

-- (4.13): σ1 (x) = ROTR 19 (x) ⊕ ROTR 61 (x) ⊕ SHR 6 (x)
unfoldable pub ssig1 : ℕ → ℕ
ssig1 x = bit_xor (bit_xor (rotr 19 x) (rotr 61 x)) (shr 6 x)
