-- The laws of ⊕: an abelian group, in which each number is its own negative; and how it goes with digits.
use mathlib.Core.Path.{◌≡◌, refl, sym, ap, ap₂, ◌∙◌}
use Prim.Native.Nat.{ℕ, zero, suc, ◌+◌, ◌*◌, ◌/◌, ◌%◌, ◌^◌, ◌<◌}
use native.Mathlib.Nat.{mod-lt, zero-lt-suc, not-suc-le-zero, le_of_suc-le-suc, zero-mul, one-mul, add-zero}
use lib.Arith.{bin_ind, digits_mod}
use lib.Bits.{bit_xor, differ, xor_step, xor_comm, xor_self, xor_zero_r, xor_shr, xor_mod, xor_lt, xor_block, xor_shifted}
use Rattle.gf.specs.Field.{◌⊕◌}

two : zero < 2
two = zero-lt-suc 1

no_digit : {x : ℕ} → suc (suc x) < 2 → ⊥
no_digit h = not-suc-le-zero (le_of_suc-le-suc (le_of_suc-le-suc h))

differ_assoc : (x y z : ℕ) → x < 2 → y < 2 → z < 2 → differ (differ x y) z ≡ differ x (differ y z)
differ_assoc zero y z hx hy hz = refl
differ_assoc (suc zero) zero z hx hy hz = refl
differ_assoc (suc zero) (suc zero) zero hx hy hz = refl
differ_assoc (suc zero) (suc zero) (suc zero) hx hy hz = refl
differ_assoc (suc zero) (suc zero) (suc (suc z)) hx hy hz = absurd (no_digit hz)
differ_assoc (suc zero) (suc (suc y)) z hx hy hz = absurd (no_digit hy)
differ_assoc (suc (suc x)) y z hx hy hz = absurd (no_digit hx)

differ-lt : (x y : ℕ) → x < 2 → y < 2 → differ x y < 2
differ-lt zero y hx hy = hy
differ-lt (suc zero) zero hx hy = hx
differ-lt (suc zero) (suc zero) hx hy = two
differ-lt (suc zero) (suc (suc y)) hx hy = absurd (no_digit hy)
differ-lt (suc (suc x)) y hx hy = absurd (no_digit hx)

xor-odd : (a b : ℕ) → bit_xor a b % 2 ≡ differ (a % 2) (b % 2)
xor-odd a b =
    ap (λ (n : ℕ). n % 2) (xor_step a b)
    ∙ digits_mod (bit_xor (a / 2) (b / 2)) (differ-lt (a % 2) (b % 2) (mod-lt a two) (mod-lt b two))

xor_assoc : (a b c : ℕ) → bit_xor (bit_xor a b) c ≡ bit_xor a (bit_xor b c)
xor_assoc a =
    bin_ind (λ (n : ℕ). (b c : ℕ) → bit_xor (bit_xor n b) c ≡ bit_xor n (bit_xor b c)) (λ b c. refl)
    (λ n ih b c. xor_step (bit_xor n b) c
    ∙ ap₂ (λ (x y : ℕ). x * 2 + y)
    (ap (λ (x : ℕ). bit_xor x (c / 2)) (xor_shr n b 1) ∙ ih (b / 2) (c / 2) ∙ ap (bit_xor (n / 2)) (sym (xor_shr b c 1)))
    (ap (λ (x : ℕ). differ x (c % 2)) (xor-odd n b)
    ∙ differ_assoc (n % 2) (b % 2) (c % 2) (mod-lt n two) (mod-lt b two) (mod-lt c two)
    ∙ ap (differ (n % 2)) (sym (xor-odd b c)))
    ∙ sym (xor_step n (bit_xor b c))) a

-- ---- the group
pub add_assoc : (a b c : ℕ) → a ⊕ b ⊕ c ≡ a ⊕ (b ⊕ c)
add_assoc = xor_assoc

pub add_comm : (a b : ℕ) → a ⊕ b ≡ b ⊕ a
add_comm = xor_comm

pub add-self : (a : ℕ) → a ⊕ a ≡ 0
add-self = xor_self

pub zero_left : (a : ℕ) → 0 ⊕ a ≡ a
zero_left a = refl

pub zero_right : (a : ℕ) → a ⊕ 0 ≡ a
zero_right = xor_zero_r

pub add_left_comm : (a b c : ℕ) → a ⊕ (b ⊕ c) ≡ b ⊕ (a ⊕ c)
add_left_comm a b c = rw (← add_assoc a b c, add_comm a b, add_assoc b a c)

pub add-four : (a b c d : ℕ) → a ⊕ b ⊕ (c ⊕ d) ≡ a ⊕ c ⊕ (b ⊕ d)
add-four a b c d = rw (add_assoc a b (c ⊕ d), add_left_comm b c d, ← add_assoc a c (b ⊕ d))

pub add-cancel : (a b : ℕ) → a ⊕ (a ⊕ b) ≡ b
add-cancel a b = rw (← add_assoc a a b, add-self a, zero_left b)

-- a sum that is zero has equal parts
pub eq-of-add : (a b : ℕ) → a ⊕ b ≡ 0 → a ≡ b
eq-of-add a b e = sym (zero_right a) ∙ ap (λ (x : ℕ). a ⊕ x) (sym e) ∙ add-cancel a b

-- any sum in its normal form: to the right, in the order that simp gives
pub ruleset sums = (add_assoc, add_comm, add_left_comm, add-self, add-cancel, zero_left, zero_right)

-- ---- digits
pub add-lt : (k a b : ℕ) → a < 2 ^ k → b < 2 ^ k → a ⊕ b < 2 ^ k
add-lt = xor_lt

pub add-mod : (a b k : ℕ) → (a ⊕ b) % 2 ^ k ≡ (a % 2 ^ k) ⊕ (b % 2 ^ k)
add-mod = xor_mod

pub add-shr : (a b k : ℕ) → (a ⊕ b) / 2 ^ k ≡ (a / 2 ^ k) ⊕ (b / 2 ^ k)
add-shr = xor_shr

pub add-shifted : (a k b : ℕ) → b < 2 ^ k → (a * 2 ^ k) ⊕ b ≡ a * 2 ^ k + b
add-shifted = xor_shifted

pub add-double : (a b : ℕ) → (a ⊕ b) * 2 ≡ (a * 2) ⊕ (b * 2)
add-double a b =
    sym (ap₂ bit_xor (sym (add-zero (a * 2))) (sym (add-zero (b * 2))) ∙ xor_block 1 a b 0 0 two two ∙ add-zero (bit_xor a b * 2))

-- a digit, 0 or 1, times a number
pub bit-left : (x y v : ℕ) → x < 2 → y < 2 → (x ⊕ y) * v ≡ (x * v) ⊕ (y * v)
bit-left zero y v hx hy = simp (zero_left, zero-mul)
bit-left (suc zero) zero v hx hy = simp (zero_right, zero-mul)
bit-left (suc zero) (suc zero) v hx hy = simp (add-self, zero-mul)
bit-left (suc zero) (suc (suc y)) v hx hy = absurd (no_digit hy)
bit-left (suc (suc x)) y v hx hy = absurd (no_digit hx)

pub bit-right : (x v w : ℕ) → x < 2 → x * (v ⊕ w) ≡ (x * v) ⊕ (x * w)
bit-right zero v w h = simp (zero-mul, zero_left)
bit-right (suc zero) v w h = simp one-mul
bit-right (suc (suc x)) v w h = absurd (no_digit h)

-- what takes 0 to 0 takes a digit's multiple to the digit's multiple
pub bit-out : (f : ℕ → ℕ) → f 0 ≡ 0 → (x v : ℕ) → x < 2 → f (x * v) ≡ x * f v
bit-out f f0 zero v h = simp (zero-mul, f0)
bit-out f f0 (suc zero) v h = simp one-mul
bit-out f f0 (suc (suc x)) v h = absurd (no_digit h)

pub odd : (a b v : ℕ) → (a ⊕ b) % 2 * v ≡ (a % 2 * v) ⊕ (b % 2 * v)
odd a b v = ap (λ (x : ℕ). x * v) (add-mod a b 1) ∙ bit-left (a % 2) (b % 2) v (mod-lt a two) (mod-lt b two)
