-- The field GF(2^m) of 2 ^ m elements (RLCE-KEM specification of September 14, 2017, sections 6.1.3 and 7.1): polynomials over the two numbers 0 and 1, modulo x ^ m + low.
-- An element is a number below 2 ^ m, whose binary digit i is the coefficient of x ^ i: its m bits, as section 6.1.3, step 6, writes α.
-- The set's m is `width`; m is written suc k where a definition counts down.
use Rattle.std.specs.Prelude.{ℕ, zero, suc, ◌-◌, ◌*◌, ◌/◌, ◌%◌, ◌^◌, ◌<◌, ◌≡◌}
use Rattle.std.specs.Int.Bits.{bit_xor}

infixl 65 ◌⊕◌
-- the sum of polynomials over 0 and 1: exclusive or
abbrev pub ◌⊕◌ : ℕ → ℕ → ℕ
a ⊕ b = bit_xor a b

-- section 6.1.3, step 5: the polynomial π(x), here x ^ m + low, with m = suc k
pub record Modulus : Type 0 where
  pub k : ℕ
  pub low : ℕ
  pub low_lt : low < 2 ^ suc k

-- m, the number of binary digits of an element
abbrev pub width : Modulus → ℕ
width F = suc F.k

-- how many elements there are
abbrev pub size : Modulus → ℕ
size F = 2 ^ width F

-- how many of them are not 0
abbrev pub order : Modulus → ℕ
order F = size F - 1

-- times x: each digit moves up a place, and the top digit, at place k, comes back as `low`
unfoldable pub times_x : Modulus → ℕ → ℕ
times_x F a = (a % 2 ^ F.k * 2) ⊕ (a / 2 ^ F.k % 2 * F.low)

-- times x ^ i
unfoldable pub shift : Modulus → ℕ → ℕ → ℕ
shift F zero v = v
shift F (suc i) v = times_x F (shift F i v)

-- the sum of v times x ^ i over the set digits i of a, of its n low digits
unfoldable pub act : Modulus → ℕ → ℕ → ℕ → ℕ
act F zero a v = 0
act F (suc n) a v = (a % 2 * v) ⊕ act F n (a / 2) (times_x F v)

-- the product. Of a number past the field only the m low digits count, so the laws hold of all numbers.
unfoldable pub mul : Modulus → ℕ → ℕ → ℕ
mul F a b = act F (width F) a (b % size F)

-- the n-th power of an element
unfoldable pub power : Modulus → ℕ → ℕ → ℕ
power F a zero = 1
power F a (suc n) = mul F a (power F a n)

-- section 6.1.3, step 6: the powers of α, the root of π(x) whose m bits are 0..010, which is x
abbrev pub alpha : Modulus → ℕ → ℕ
alpha F i = shift F i 1

-- the inverse, by Fermat's little theorem for the field: the power 2 ^ m - 2; of 0 it is 0
unfoldable pub inverse : Modulus → ℕ → ℕ
inverse F a = power F a (size F - 2)

-- i is the discrete logarithm of a: α to the i, below the order
pub record Logarithm (F : Modulus) (a i : ℕ) : Type 0 where
  pub below : i < order F
  pub is : alpha F i ≡ a
