-- The commutative ring of `specs/Field.antt`, for every modulus. The product is a sum of shifts, `act`, additive in both arguments, and any two `act`s
-- commute: so the laws hold of all numbers, with no bound on them, but for the unit's.
use mathlib.Core.Path.{◌≡◌, refl, sym, ap, ap₂, ◌∙◌}
use Prim.Native.Nat.{ℕ, zero, suc, ◌+◌, ◌-◌, ◌*◌, ◌/◌, ◌%◌, ◌^◌, ◌≤◌, ◌<◌}
use native.Mathlib.Nat.{mod-lt, zero-lt-suc, not-suc-le-zero, le_of_suc-le-suc, zero-mul, one-mul, mul-zero, mul-one, mod-eq_of_lt, div-eq_of_lt, zero-mod, pow-suc, le_refl, le_of_lt, lt_of_lt_of_le, zero-add, suc-add, mod-one, mul-lt-mul_of_pos_right, suc-mul}
use native.Mathlib.Nat as N
use native.Mathlib.Numerals.{sub-one}
use native.Mathlib.Omega.{arith}
use lib.Arith.{mod-mul}
use lib.Pow.{pow_pos, pow_mono, pow-lt}
use Rattle.gf.specs.Field.{Modulus, width, size, ◌⊕◌, times_x, shift, act, mul, alpha, power, inverse}
use Rattle.gf.proofs.Xor.{add_assoc, add_comm, add-self, add-four, zero_left, zero_right, add-lt, add-mod, add-shr, add-shifted, add-double, bit-right, bit-out, odd, sums}

two : zero < 2
two = zero-lt-suc 1

module _ (F : Modulus) where
  -- ---- times x is additive
  times_x-add : (a b : ℕ) → times_x F (a ⊕ b) ≡ times_x F a ⊕ times_x F b
  unfolding times_x
  times_x-add a b =
      ap₂ ◌⊕◌
      (ap (λ (x : ℕ). x * 2) (add-mod a b F.k) ∙ add-double (a % 2 ^ F.k) (b % 2 ^ F.k))
      (ap (λ (x : ℕ). x % 2 * F.low) (add-shr a b F.k) ∙ odd (a / 2 ^ F.k) (b / 2 ^ F.k) F.low)
      ∙ add-four (a % 2 ^ F.k * 2) (b % 2 ^ F.k * 2) (a / 2 ^ F.k % 2 * F.low) (b / 2 ^ F.k % 2 * F.low)

  times_x-zero : times_x F 0 ≡ 0
  times_x-zero = ap (times_x F) (sym (zero_left 0)) ∙ times_x-add 0 0 ∙ add-self (times_x F 0)

  -- a number below 2 ^ F.k only moves up a place
  times_x-small : (a : ℕ) → a < 2 ^ F.k → times_x F a ≡ a * 2
  unfolding times_x
  times_x-small a h = rw (mod-eq_of_lt h, div-eq_of_lt h, zero-mul F.low, zero_right)

  -- ---- `act` is additive in both arguments, and any two of it commute
  act-zero : (n a : ℕ) → act F n a 0 ≡ 0
  unfolding act
  act-zero zero a = refl
  act-zero (suc n) a = ap₂ ◌⊕◌ (mul-zero (a % 2)) (ap (act F n (a / 2)) times_x-zero ∙ act-zero n (a / 2)) ∙ zero_left 0

  act-add-left : (n a b v : ℕ) → act F n (a ⊕ b) v ≡ act F n a v ⊕ act F n b v
  unfolding act
  act-add-left zero a b v = sym (zero_left 0)
  act-add-left (suc n) a b v =
      ap₂ ◌⊕◌ (odd a b v)
      (ap (λ (x : ℕ). act F n x (times_x F v)) (add-shr a b 1) ∙ act-add-left n (a / 2) (b / 2) (times_x F v))
      ∙ add-four (a % 2 * v) (b % 2 * v) (act F n (a / 2) (times_x F v)) (act F n (b / 2) (times_x F v))

  act-add-right : (n a v w : ℕ) → act F n a (v ⊕ w) ≡ act F n a v ⊕ act F n a w
  unfolding act
  act-add-right zero a v w = sym (zero_left 0)
  act-add-right (suc n) a v w =
      ap₂ ◌⊕◌ (bit-right (a % 2) v w (mod-lt a two))
      (ap (act F n (a / 2)) (times_x-add v w) ∙ act-add-right n (a / 2) (times_x F v) (times_x F w))
      ∙ add-four (a % 2 * v) (a % 2 * w) (act F n (a / 2) (times_x F v)) (act F n (a / 2) (times_x F w))

  act-times_x : (n a v : ℕ) → act F n a (times_x F v) ≡ times_x F (act F n a v)
  unfolding act
  act-times_x zero a v = sym times_x-zero
  act-times_x (suc n) a v =
      ap₂ ◌⊕◌ (sym (bit-out (times_x F) times_x-zero (a % 2) v (mod-lt a two))) (act-times_x n (a / 2) (times_x F v))
      ∙ sym (times_x-add (a % 2 * v) (act F n (a / 2) (times_x F v)))

  act_comm : (n a p b v : ℕ) → act F n a (act F p b v) ≡ act F p b (act F n a v)
  unfolding act
  act_comm zero a p b v = sym (act-zero p b)
  act_comm (suc n) a p b v =
      ap₂ ◌⊕◌ (sym (bit-out (act F p b) (act-zero p b) (a % 2) v (mod-lt a two)))
      (ap (act F n (a / 2)) (sym (act-times_x p b v)) ∙ act_comm n (a / 2) p b (times_x F v))
      ∙ sym (act-add-right p b (a % 2 * v) (act F n (a / 2) (times_x F v)))

  -- a number's n low digits, as a sum of powers of x
  act-one : (n a : ℕ) → n ≤ width F → act F n a 1 ≡ a % 2 ^ n
  unfolding act
  act-one zero a h = sym (mod-one a)
  act-one (suc n) a h =
      ap₂ ◌⊕◌ (mul-one (a % 2))
      (act-times_x n (a / 2) 1 ∙ ap (times_x F) (act-one n (a / 2) (le_of_lt h))
      ∙ times_x-small (a / 2 % 2 ^ n) (lt_of_lt_of_le (mod-lt (a / 2) (pow_pos n)) (pow_mono (le_of_suc-le-suc h))))
      ∙ add_comm (a % 2) (a / 2 % 2 ^ n * 2)
      ∙ add-shifted (a / 2 % 2 ^ n) 1 (a % 2) (mod-lt a two)
      ∙ sym (mod-mul a (pow_pos n) two)
      ∙ ap (λ (x : ℕ). a % x) (sym (pow-suc 2 n))

  -- one turn of a loop that counts the digits down, with s summed up so far; and the loop's end
  pub act-turn : (n s a v : ℕ) → 0 < n → s ⊕ (a % 2 * v) ⊕ act F (n - 1) (a / 2) (times_x F v) ≡ s ⊕ act F n a v
  unfolding act
  act-turn zero s a v h = absurd (not-suc-le-zero h)
  act-turn (suc n) s a v h =
      ap (λ (x : ℕ). s ⊕ (a % 2 * v) ⊕ act F x (a / 2) (times_x F v)) (sub-one (suc n))
      ∙ add_assoc s (a % 2 * v) (act F n (a / 2) (times_x F v))

  pub act-none : (s a v : ℕ) → s ⊕ act F 0 a v ≡ s
  unfolding act
  act-none s a v = zero_right s

  -- ---- bounds
  pub bit-lt : (x v : ℕ) → x < 2 → v < size F → x * v < size F
  bit-lt zero v hx hv = rw (zero-mul v) (pow_pos (width F))
  bit-lt (suc zero) v hx hv = rw (one-mul v) hv
  bit-lt (suc (suc x)) v hx hv = absurd (not-suc-le-zero (le_of_suc-le-suc (le_of_suc-le-suc hx)))

  pub times_x-lt : (a : ℕ) → times_x F a < size F
  unfolding times_x
  times_x-lt a =
      add-lt (width F) (a % 2 ^ F.k * 2) (a / 2 ^ F.k % 2 * F.low)
      (rw (pow-suc 2 F.k) (mul-lt-mul_of_pos_right (mod-lt a (pow_pos F.k)) two))
      (bit-lt (a / 2 ^ F.k % 2) F.low (mod-lt (a / 2 ^ F.k) two) F.low_lt)

  act-lt : (n a v : ℕ) → v < size F → act F n a v < size F
  unfolding act
  act-lt zero a v h = pow_pos (width F)
  act-lt (suc n) a v h =
      add-lt (width F) (a % 2 * v) (act F n (a / 2) (times_x F v)) (bit-lt (a % 2) v (mod-lt a two) h)
      (act-lt n (a / 2) (times_x F v) (times_x-lt v))

  -- ---- the ring
  -- the symmetric form of the product
  mul-both : (a b : ℕ) → mul F a b ≡ act F (width F) a (act F (width F) b 1)
  unfolding mul
  mul-both a b = ap (act F (width F) a) (sym (act-one (width F) b (le_refl (width F))))

  pub mul-lt : (a b : ℕ) → mul F a b < size F
  unfolding mul
  mul-lt a b = act-lt (width F) a (b % size F) (mod-lt b (pow_pos (width F)))

  pub mul_comm : (a b : ℕ) → mul F a b ≡ mul F b a
  mul_comm a b = mul-both a b ∙ act_comm (width F) a (width F) b 1 ∙ sym (mul-both b a)

  -- by an element, the product is what `act` gives
  pub mul-act : (a b : ℕ) → b < size F → mul F a b ≡ act F (width F) a b
  unfolding mul
  mul-act a b h = ap (act F (width F) a) (mod-eq_of_lt h)

  mul-three : (a b c : ℕ) → mul F c (mul F a b) ≡ act F (width F) c (act F (width F) a (act F (width F) b 1))
  mul-three a b c = mul-act c (mul F a b) (mul-lt a b) ∙ ap (act F (width F) c) (mul-both a b)

  pub mul_assoc : (a b c : ℕ) → mul F (mul F a b) c ≡ mul F a (mul F b c)
  mul_assoc a b c =
      mul_comm (mul F a b) c ∙ mul-three a b c
      ∙ act_comm (width F) c (width F) a (act F (width F) b 1)
      ∙ ap (act F (width F) a) (act_comm (width F) c (width F) b 1)
      ∙ sym (mul-three b c a)

  pub mul_left_comm : (a b c : ℕ) → mul F a (mul F b c) ≡ mul F b (mul F a c)
  mul_left_comm a b c = rw (← mul_assoc a b c, mul_comm a b, mul_assoc b a c)

  pub mul-add-left : (a b c : ℕ) → mul F (a ⊕ b) c ≡ mul F a c ⊕ mul F b c
  unfolding mul
  mul-add-left a b c = act-add-left (width F) a b (c % size F)

  pub mul-add-right : (a b c : ℕ) → mul F a (b ⊕ c) ≡ mul F a b ⊕ mul F a c
  mul-add-right a b c = mul_comm a (b ⊕ c) ∙ mul-add-left b c a ∙ ap₂ ◌⊕◌ (mul_comm b a) (mul_comm c a)

  pub mul-zero-right : (a : ℕ) → mul F a 0 ≡ 0
  unfolding mul
  mul-zero-right a = ap (act F (width F) a) (zero-mod (size F)) ∙ act-zero (width F) a

  pub mul-zero-left : (a : ℕ) → mul F 0 a ≡ 0
  mul-zero-left a = mul_comm 0 a ∙ mul-zero-right a

  pub one-lt : 1 < size F
  one-lt = pow-lt (zero-lt-suc F.k)

  -- the unit: of a number past the field, its m low digits are left
  pub mul-one-mod : (a : ℕ) → mul F 1 a ≡ a % size F
  mul-one-mod a = mul_comm 1 a ∙ mul-act a 1 one-lt ∙ act-one (width F) a (le_refl (width F))

  pub mul-one-left : (a : ℕ) → a < size F → mul F 1 a ≡ a
  mul-one-left a h = mul-one-mod a ∙ mod-eq_of_lt h

  pub mul-one-right : (a : ℕ) → a < size F → mul F a 1 ≡ a
  mul-one-right a h = mul_comm a 1 ∙ mul-one-left a h

  -- a product is its own remainder
  pub mul-one-mul : (a b : ℕ) → mul F 1 (mul F a b) ≡ mul F a b
  mul-one-mul a b = mul-one-left (mul F a b) (mul-lt a b)

  -- of each factor only the m low digits count
  pub mul_mod_left : (a b : ℕ) → mul F (a % size F) b ≡ mul F a b
  mul_mod_left a b = rw (← mul-one-mod a, mul_assoc 1 a b) (mul-one-mul a b)

  pub mul_mod_right : (a b : ℕ) → mul F a (b % size F) ≡ mul F a b
  mul_mod_right a b = mul_comm a (b % size F) ∙ mul_mod_left b a ∙ mul_comm b a

  -- ---- powers
  pub power_zero : (a : ℕ) → power F a 0 ≡ 1
  unfolding power
  power_zero a = refl

  pub power-suc : (a n : ℕ) → power F a (suc n) ≡ mul F a (power F a n)
  unfolding power
  power-suc a n = refl

  pub power-lt : (a n : ℕ) → power F a n < size F
  unfolding power
  power-lt a zero = one-lt
  power-lt a (suc n) = mul-lt a (power F a n)

  -- of the base only the m low digits count
  pub power-mod : (a n : ℕ) → power F (a % size F) n ≡ power F a n
  unfolding power
  power-mod a zero = refl
  power-mod a (suc n) = mul_mod_left a (power F (a % size F) n) ∙ ap (mul F a) (power-mod a n)

  pub inverse-lt : (a : ℕ) → inverse F a < size F
  unfolding inverse
  inverse-lt a = power-lt a (size F - 2)

  -- the inverse of 0, but where m is 1
  pub inverse-zero : 0 < F.k → inverse F 0 ≡ 0
  unfolding inverse
  inverse-zero h =
      let more : 2 ^ 2 ≤ 2 ^ width F = pow_mono (suc-lt h) in
      let n : size F - 2 ≡ suc (size F - 3) = omega arith in
      ap (power F 0) n ∙ power-suc 0 (size F - 3) ∙ mul-zero-left (power F 0 (size F - 3))
    where
      suc-lt : {x : ℕ} → 0 < x → 2 ≤ suc x
      suc-lt g = omega arith

  -- ---- powers of α, which is x
  pub shift_zero : (v : ℕ) → shift F 0 v ≡ v
  unfolding shift
  shift_zero v = refl

  pub shift_suc : (i v : ℕ) → shift F (suc i) v ≡ times_x F (shift F i v)
  unfolding shift
  shift_suc i v = refl

  -- a shift of what was shifted once is one shift more
  pub shift_in : (i v : ℕ) → shift F i (times_x F v) ≡ shift F (suc i) v
  unfolding shift
  shift_in zero v = refl
  shift_in (suc i) v = ap (times_x F) (shift_in i v)

  pub shift-lt : (i v : ℕ) → v < size F → shift F i v < size F
  unfolding shift
  shift-lt zero v h = h
  shift-lt (suc i) v h = times_x-lt (shift F i v)

  pub alpha-lt : (i : ℕ) → alpha F i < size F
  alpha-lt i = shift-lt i 1 one-lt

  pub shift-add : (i j v : ℕ) → shift F (i + j) v ≡ shift F i (shift F j v)
  unfolding shift
  shift-add zero j v = ap (λ (n : ℕ). shift F n v) (zero-add j)
  shift-add (suc i) j v = ap (λ (n : ℕ). shift F n v) (suc-add i j) ∙ ap (times_x F) (shift-add i j v)

  act-shift : (n a i v : ℕ) → act F n a (shift F i v) ≡ shift F i (act F n a v)
  unfolding shift
  act-shift n a zero v = refl
  act-shift n a (suc i) v = act-times_x n a (shift F i v) ∙ ap (times_x F) (act-shift n a i v)

  -- times the i-th power of α is times x, i times
  pub mul-alpha : (i b : ℕ) → b < size F → mul F (alpha F i) b ≡ shift F i b
  mul-alpha i b h =
      mul_comm (alpha F i) b ∙ mul-act b (alpha F i) (alpha-lt i) ∙ act-shift (width F) b i 1
      ∙ ap (shift F i) (act-one (width F) b (le_refl (width F)) ∙ mod-eq_of_lt h)

  pub alpha-add : (i j : ℕ) → alpha F (i + j) ≡ mul F (alpha F i) (alpha F j)
  alpha-add i j = shift-add i j 1 ∙ sym (mul-alpha i (alpha F j) (alpha-lt j))

  pub alpha-zero : alpha F 0 ≡ 1
  alpha-zero = shift_zero 1

  pub alpha-suc : (i : ℕ) → alpha F (suc i) ≡ times_x F (alpha F i)
  alpha-suc i = shift_suc i 1

  -- the n-th power of the i-th
  pub power-alpha : (i n : ℕ) → power F (alpha F i) n ≡ alpha F (n * i)
  power-alpha i zero = power_zero (alpha F i) ∙ sym (ap (λ (x : ℕ). alpha F x) (zero-mul i) ∙ alpha-zero)
  power-alpha i (suc n) =
      power-suc (alpha F i) n ∙ ap (mul F (alpha F i)) (power-alpha i n) ∙ sym (alpha-add i (n * i))
      ∙ ap (λ (x : ℕ). alpha F x) (N.add_comm i (n * i) ∙ sym (suc-mul n i))

  -- α is the number 2, but where m is 1
  pub alpha-one : 0 < F.k → alpha F 1 ≡ 2
  alpha-one h = shift_suc 0 1 ∙ ap (times_x F) (shift_zero 1) ∙ times_x-small 1 (pow-lt h)

  pub alpha-power : 0 < F.k → (i : ℕ) → alpha F i ≡ power F 2 i
  alpha-power h i =
      ap (λ (x : ℕ). alpha F x) (sym (mul-one i)) ∙ sym (power-alpha 1 i) ∙ ap (λ (x : ℕ). power F x i) (alpha-one h)

-- the ring's normal form, for `simp`: sums of products, to the right
pub ruleset ring = (sums, mul-add-left, mul-add-right, mul_assoc, mul_comm, mul_left_comm, mul-zero-left, mul-zero-right, mul-one-mul)
