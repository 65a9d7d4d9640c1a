-- Rotations bit by bit: a rotation goes through xor, and two rotations are one.
use Rattle.std.proofs.Common.{◌≡◌, ℕ, ◌+◌, ◌-◌, ◌*◌, ◌/◌, ◌%◌, ◌^◌, ◌<◌, ◌≤◌, bit_xor, max, sym, ap, ◌∙◌, add-zero, arith, mod-lt, pow_pos, shr-shr}
use native.Mathlib.Decide.{dec_lt}
use mir.Syntax.{w64}
use Rattle.std.specs.Int.{bit_at, rotate_right}
use Rattle.std.specs.Int.Bits.{xor_assoc}
use Rattle.std.proofs.lemmas.Nat.{or_lt, shr_le, xor_lt}
use Rattle.std.proofs.lemmas.Nat.Bits.{bit_at_or, bit_at_xor, bit_at_cat_low, bit_at_cat_high, bit_at_above, bit_at-zero, same_from_bits_below}
use Rattle.hash.specs.Word.{rotr, bsig0, bsig1, ssig0, ssig1}

-- the bits of a word shifted to the right, and of one shifted to the left
shr_bit : (x n i : ℕ) → bit_at (x / 2 ^ n) i ≡ bit_at x (n + i)
shr_bit x n i = ap (λ (y : ℕ). y % 2) (shr-shr x n i)

mod_bit : (y i : ℕ) → i < 64 → bit_at (y % 2 ^ 64) i ≡ bit_at y i
mod_bit y i h =
    let whole : y ≡ y / 2 ^ 64 * 2 ^ 64 + y % 2 ^ 64 = omega arith in
    sym (ap (λ (z : ℕ). bit_at z i) whole ∙ bit_at_cat_low (y / 2 ^ 64) 64 (y % 2 ^ 64) i h)

shl_bit_low : (x n i : ℕ) → i < n → i < 64 → bit_at (x * 2 ^ n % 2 ^ 64) i ≡ 0
shl_bit_low x n i h k =
    mod_bit (x * 2 ^ n) i k ∙ ap (λ (z : ℕ). bit_at z i) (sym (add-zero (x * 2 ^ n))) ∙ bit_at_cat_low x n 0 i h ∙ bit_at-zero i

shl_bit_high : (x n i : ℕ) → n ≤ i → i < 64 → bit_at (x * 2 ^ n % 2 ^ 64) i ≡ bit_at x (i - n)
shl_bit_high x n i h k =
    mod_bit (x * 2 ^ n) i k ∙ ap (λ (z : ℕ). bit_at z i) (sym (add-zero (x * 2 ^ n))) ∙ bit_at_cat_high x n 0 i (pow_pos n) h

rotr-lt : (n x : ℕ) → x < 2 ^ 64 → rotr n x < 2 ^ 64
unfolding rotr
rotr-lt n x h = or_lt 64 (x / 2 ^ n) (x * 2 ^ (64 - n) % 2 ^ 64) (omega (arith, shr_le x n)) (mod-lt _ (pow_pos 64))

-- bit i of a rotation by n is bit i + n, counted round
rotr-bit : (n x i : ℕ) → x < 2 ^ 64 → 0 < n → n < 64 → i < 64 → bit_at (rotr n x) i ≡ bit_at x ((i + n) % 64)
unfolding rotr
rotr-bit n x i fits h k l = bit_at_or (x / 2 ^ n) (x * 2 ^ (64 - n) % 2 ^ 64) i ∙ go (dec_lt (i + n) 64)
  where
    go : Dec (i + n < 64) → max (bit_at (x / 2 ^ n) i) (bit_at (x * 2 ^ (64 - n) % 2 ^ 64) i) ≡ bit_at x ((i + n) % 64)
    go (yes below) =
        let place : n + i ≡ (i + n) % 64 = omega arith in
        rw (shr_bit x n i, shl_bit_low x (64 - n) i (omega arith) l, place) (omega arith)
    go (no above) =
        let place : i - (64 - n) ≡ (i + n) % 64 = omega arith in
        rw (shr_bit x n i, shl_bit_high x (64 - n) i (omega arith) l, bit_at_above x 64 (n + i) fits (omega arith), place) (omega arith)

rotr-xor : (n a b : ℕ) → 0 < n → n < 64 → a < 2 ^ 64 → b < 2 ^ 64 → rotr n (bit_xor a b) ≡ bit_xor (rotr n a) (rotr n b)
rotr-xor n a b h k fits_a fits_b =
    same_from_bits_below 64 _ _ (rotr-lt n _ (xor_lt 64 a b fits_a fits_b)) (xor_lt 64 _ _ (rotr-lt n a fits_a) (rotr-lt n b fits_b))
    (λ i l. rw (
      rotr-bit n (bit_xor a b) i (xor_lt 64 a b fits_a fits_b) h k l,
      bit_at_xor a b ((i + n) % 64),
      bit_at_xor (rotr n a) (rotr n b) i,
      rotr-bit n a i fits_a h k l,
      rotr-bit n b i fits_b h k l,
    ))

rotr-rotr : (m n x : ℕ) → 0 < m → 0 < n → m + n < 64 → x < 2 ^ 64 → rotr m (rotr n x) ≡ rotr (m + n) x
rotr-rotr m n x h k l fits =
    same_from_bits_below 64 _ _ (rotr-lt m _ (rotr-lt n x fits)) (rotr-lt (m + n) x fits)
    (λ i p.
    rotr-bit m (rotr n x) i (rotr-lt n x fits) h (omega arith) p
    ∙ rotr-bit n x ((i + m) % 64) fits k (omega arith) (omega arith)
    ∙ ap (bit_at x) (omega arith)
    ∙ sym (rotr-bit (m + n) x i fits (omega arith) l p))

two : (a b x : ℕ) → 0 < a → 0 < b → a + b < 64 → x < 2 ^ 64 → rotr a (bit_xor x (rotr b x)) ≡ bit_xor (rotr a x) (rotr (a + b) x)
two a b x h k l fits =
    rotr-xor a x (rotr b x) h (omega arith) fits (rotr-lt b x fits) ∙ ap (bit_xor (rotr a x)) (rotr-rotr a b x h k l fits)

three : (a b c x : ℕ) → 0 < a → 0 < b → 0 < c → a + (b + c) < 64 → x < 2 ^ 64
    → rotr a (bit_xor x (rotr b (bit_xor x (rotr c x)))) ≡ bit_xor (bit_xor (rotr a x) (rotr (a + b) x)) (rotr (a + (b + c)) x)
three a b c x h k l m fits =
    let far : ℕ = rotr (b + c) x in
    let near : ℕ = rotr b x in
    let both : bit_xor near far < 2 ^ 64 = xor_lt 64 near far (rotr-lt b x fits) (rotr-lt (b + c) x fits) in
    rw (
      two b c x k l (omega arith) fits,
      rotr-xor a x (bit_xor near far) h (omega arith) fits both,
      rotr-xor a near far h (omega arith) (rotr-lt b x fits) (rotr-lt (b + c) x fits),
      rotr-rotr a b x h k (omega arith) fits,
      rotr-rotr a (b + c) x h (omega arith) m fits,
      xor_assoc (rotr a x) (rotr (a + b) x) (rotr (a + (b + c)) x),
    )

-- ---- the four functions of the standard, with their rotations nested
pub nested_bsig0 : (x : ℕ) → x < 2 ^ 64
    → rotate_right w64 (bit_xor x (rotate_right w64 (bit_xor x (rotate_right w64 x 5)) 6)) 28 ≡ bsig0 x
unfolding bsig0 rotr
nested_bsig0 x = three 28 6 5 x (omega arith) (omega arith) (omega arith) (omega arith)

pub nested_bsig1 : (x : ℕ) → x < 2 ^ 64
    → rotate_right w64 (bit_xor x (rotate_right w64 (bit_xor x (rotate_right w64 x 23)) 4)) 14 ≡ bsig1 x
unfolding bsig1 rotr
nested_bsig1 x = three 14 4 23 x (omega arith) (omega arith) (omega arith) (omega arith)

pub nested_ssig0 : (x : ℕ) → x < 2 ^ 64 → bit_xor (rotate_right w64 (bit_xor x (rotate_right w64 x 7)) 1) (x / 2 ^ 7) ≡ ssig0 x
unfolding ssig0 rotr
nested_ssig0 x fits = ap (λ (y : ℕ). bit_xor y (x / 2 ^ 7)) (two 1 7 x (omega arith) (omega arith) (omega arith) fits)

pub nested_ssig1 : (x : ℕ) → x < 2 ^ 64 → bit_xor (rotate_right w64 (bit_xor x (rotate_right w64 x 42)) 19) (x / 2 ^ 6) ≡ ssig1 x
unfolding ssig1 rotr
nested_ssig1 x fits = ap (λ (y : ℕ). bit_xor y (x / 2 ^ 6)) (two 19 42 x (omega arith) (omega arith) (omega arith) fits)
