-- Equations of bitwise operations: two numbers with the same bits are equal.
use Rattle.std.proofs.Common.{◌≡◌, ℕ, ◌-◌, ◌^◌, ◌<◌, bit_and, bit_xor, arith}
use Rattle.std.specs.Int.Bits.{xor_assoc, xor_self, xor_zero_r}
use Rattle.std.proofs.lemmas.Nat.{and_le_l, xor_lt}
use Rattle.std.proofs.lemmas.Nat.Bits.{bit_at-lt, bit_at_and, bit_at_not, bit_at_xor, same_from_bits, same_from_bits_below}
use mir.Syntax.{w64}
use Rattle.hash.specs.Word.{ch, maj}

-- a mask twice is none
pub xor-twice : (a m : ℕ) → bit_xor (bit_xor a m) m ≡ a
xor-twice a m = rw (xor_assoc a m m, xor_self m, xor_zero_r a)

-- the majority with fewer operations
pub majority : (x y z : ℕ) → bit_xor y (bit_and (bit_xor x y) (bit_xor y z)) ≡ maj x y z
unfolding maj
majority x y z =
    same_from_bits _ _ (λ i. simp (bit_at_xor, bit_at_and) (omega (arith, bit_at-lt x i, bit_at-lt y i, bit_at-lt z i)))

-- and the choice
pub choice : (x y z : ℕ) → x < 2 ^ 64 → y < 2 ^ 64 → z < 2 ^ 64 → bit_xor z (bit_and x (bit_xor y z)) ≡ ch x y z
unfolding ch
choice x y z fits_x fits_y fits_z =
    let not_x : 2 ^ 64 - 1 - x < 2 ^ 64 = omega arith in
    same_from_bits_below 64 _ _
    (xor_lt 64 z (bit_and x (bit_xor y z)) fits_z (omega (arith, and_le_l x (bit_xor y z))))
    (xor_lt 64 (bit_and x y) (bit_and (2 ^ 64 - 1 - x) z) (omega (arith, and_le_l x y)) (omega (arith, and_le_l (2 ^ 64 - 1 - x) z)))
    (λ i h. simp (bit_at_xor, bit_at_and, bit_at_not w64 x i fits_x h) (omega (arith, bit_at-lt x i, bit_at-lt y i, bit_at-lt z i)))
