-- What the code computes from three bytes, from two elements and from lengths is what the definitions say.
use mathlib.Core.Path.{◌≡◌, sym, ◌∙◌}
use mathlib.Core.List.{List}
use mathlib.Core.Bool.{Bool, true, false}
use Prim.Native.Nat.{ℕ, ◌+◌, ◌-◌, ◌*◌, ◌/◌, ◌%◌, ◌^◌, ◌≤◌, ◌<◌}
use native.Mathlib.Nat.{add-zero, zero-add, zero-mul, one-mul, mul-add, add_assoc, mul_comm, mul_left_comm, mul-add-div, mul-add-mod_self_left, mul-div-le, mul-le-mul_right, div-add-mod, mod-eq_of_lt}
use native.Mathlib.Omega.{arith}
use native.Mathlib.Decide.{dec_lt}
use lib.ListN.{length, get_or, drop, get_or-eq_default}
use lib.Seq.{get_or-drop}
use lib.Pow.{pow_mono, pow_pos}
use Rattle.std.specs.Prelude.{eqb}
use Rattle.std.specs.Int.{div_ceil}
use Rattle.std.proofs.Common.{Fits, w8}
use Rattle.bits.specs.Bits.{bits, value, bits_at, elements_in, bytes_for, tail_zero, Small, Decided}
use Rattle.bits.specs.Steps.{Below}
use Rattle.bits.proofs.Strings.{digits, window}

-- ---- shifts
pub one_shl : (m : ℕ) → m ≤ 16 → 1 * 2 ^ m % 2 ^ 32 ≡ 2 ^ m
one_shl m h = rw one-mul (mod-eq_of_lt (omega (arith, pow_mono h)))

-- ---- windows
-- m bits of three bytes: r bits before them and t after
pub three-bits : (m q r t : ℕ) (s : List ℕ) → Small 8 s → r + m + t ≡ 24
    → ((get_or s q 0 * 256 + get_or s (q + 1) 0) * 256 + get_or s (q + 2) 0) / 2 ^ t % 2 ^ m ≡ bits_at m s (8 * q + r)
unfolding bits_at digits
three-bits m q r t s small h = sym (window 8 s small m q r 3 t h ∙ simp (zero-mul, zero-add, get_or-drop, add-zero))

-- m bits of two bytes
pub pair-bits : (m q r t : ℕ) (s : List ℕ) → Small 8 s → r + m + t ≡ 16 → (get_or s q 0 * 256 + get_or s (q + 1) 0) / 2 ^ t % 2 ^ m ≡ bits_at m s (8 * q + r)
unfolding bits_at digits
pair-bits m q r t s small h = sym (window 8 s small m q r 2 t h ∙ simp (zero-mul, zero-add, get_or-drop, add-zero))

-- eight bits of two elements
pub two-bits : (m q r t : ℕ) (s : List ℕ) → Small m s → r + 8 + t ≡ 2 * m
    → (get_or s q 0 * 2 ^ m + get_or s (q + 1) 0) / 2 ^ t % 2 ^ 8 ≡ value 8 (drop (m * q + r) (bits m s))
unfolding digits
two-bits m q r t s small h = sym (window m s small 8 q r 2 t (h ∙ mul_comm 2 m) ∙ simp (zero-mul, zero-add, get_or-drop, add-zero))

-- the same as the code writes them
pub three_bits : (m q r v : ℕ) (s : List ℕ) → ((i : ℕ) → Fits w8 (get_or s i 0)) → v ≡ (get_or s q 0 * 256 + get_or s (q + 1) 0) * 256 + get_or s (q + 2) 0 → m ≤ 16 → r < 8
    → v / 2 ^ (24 - r - m) % 2 ^ m ≡ bits_at m s (8 * q + r)
three_bits m q r v s bytes e h g = rw e (three-bits m q r (24 - r - m) s (λ i. (bytes i).fits) (omega arith))

pub pair_bits : (q r v : ℕ) (s : List ℕ) → ((i : ℕ) → Fits w8 (get_or s i 0)) → v ≡ get_or s q 0 * 256 + get_or s (q + 1) 0 → r ≤ 6 → v / 2 ^ (6 - r) % 2 ^ 10 ≡ bits_at 10 s (8 * q + r)
pair_bits q r v s bytes e h = rw e (pair-bits 10 q r (6 - r) s (λ i. (bytes i).fits) (omega arith))

pub two_bits : (m q r v : ℕ) (s : List ℕ) → Small m s → v ≡ get_or s q 0 * 2 ^ m + get_or s (q + 1) 0 → 8 ≤ m → r < m → v / 2 ^ (2 * m - r - 8) % 2 ^ 8 ≡ value 8 (drop (m * q + r) (bits m s))
two_bits m q r v s small e h g = rw e (two-bits m q r (2 * m - r - 8) s small (omega arith))

-- ---- lengths that are counted without the product of length and width
scaled : (m l : ℕ) → 8 * l ≡ m * (8 * (l / m)) + 8 * (l % m)
scaled m l = rw mul_left_comm (omega (arith, mul-add 8 (m * (l / m)) (l % m), div-add-mod l m))

pub elements_counted : (m l : ℕ) → 8 ≤ m → 8 * (l / m) + 8 * (l % m) / m ≡ elements_in m l
elements_counted m l h = sym (rw (scaled m l) (mul-add-div (omega arith) (8 * (l / m)) (8 * (l % m))))

pub share : (m l : ℕ) → 8 ≤ m → 8 * (l / m) ≤ l
share m l h = omega (arith, mul-le-mul_right (l / m) h, mul-div-le l m)

pub bytes_counted : (m f : ℕ) → m * (f / 8) + (m * (f % 8) + 7) / 8 ≡ bytes_for m f
bytes_counted m f =
    let e : m * f ≡ 8 * (m * (f / 8)) + m * (f % 8) = rw (mul_left_comm 8 m, ← mul-add, div-add-mod) in
    rw (e, add_assoc) (sym (mul-add-div {m = 8} (omega arith) (m * (f / 8)) (m * (f % 8) + 7)))

tail-counted : (m l : ℕ) → 8 * (l % m) % m ≡ 8 * l % m
tail-counted m l = sym (rw (scaled m l) (mul-add-mod_self_left m (8 * (l / m)) (8 * (l % m))))

-- the t bits before the end are those after the last whole element
pub tail_is : (m t b v : ℕ) (s : List ℕ) → t ≡ 8 * (length s % m) % m → b ≡ div_ceil t 8 → v ≡ bits_at t s (8 * (length s - b) + (8 - t % 8) % 8) → eqb v 0 ≡ tail_zero m s
unfolding tail_zero
tail_is m t b v s e d h =
    let e' : t ≡ 8 * length s % m = e ∙ tail-counted m (length s) in
    let p : 8 * (length s - b) + (8 - t % 8) % 8 ≡ m * elements_in m (length s) = omega (arith, div-add-mod (8 * length s) m) in
    rw (h, p, e')

-- what holds of each element of a list holds of the zero past its end
small_all : (w : ℕ) (xs : List ℕ) (n : ℕ) → length xs ≤ n → ((k : ℕ) → k < n → get_or xs k 0 < 2 ^ w) → Small w xs
small_all w xs n h f i = go (dec_lt i n)
  where
    go : Dec (i < n) → get_or xs i 0 < 2 ^ w
    go (yes l) = f i l
    go (no g) = let past : length xs ≤ i = omega arith in rw get_or-eq_default (pow_pos w)

pub small_decided : (r : Bool) (m limit : ℕ) (xs : List ℕ) → limit ≡ 2 ^ m → Decided r (Below limit xs) → Decided r (Small m xs)
small_decided true m limit xs e f = small_all m xs (length xs) (omega arith) (λ k l. rw e at (f k l))
small_decided false m limit xs e f = λ small. f (λ i l. rw e (small i))
