-- Strings of bits: what a window of a few numbers says of the bits in it, and the way from numbers to bits and back.
use mathlib.Core.Path.{◌≡◌, refl, sym, ◌∙◌, ap}
use mathlib.Core.List.{List, [], ◌∷◌, ◌++◌, append_assoc}
use Prim.Native.Nat.{ℕ, zero, suc, ◌+◌, ◌-◌, ◌*◌, ◌/◌, ◌%◌, ◌^◌, ◌≤◌, ◌<◌}
use native.Mathlib.Nat.{add-zero, zero-add, add-suc, mul-zero, mul-suc, add_assoc, mul_assoc, add-mul, div-one, zero-div, zero-mod, zero-mul, mod-lt, div-add-mod, div-add-mod', div-lt_iff_lt-mul, div-eq_of_lt, mul-le-mul_left, mul_comm}
use native.Mathlib.Omega.{arith}
use native.Mathlib.Decide.{dec_lt}
use lib.ListN.{length, get_or, drop, length-append, get_or-append, get_or-eq_default}
use lib.Seq.{get_or-drop, get_or-append-add, drop-drop, drop-nil, drop-append-add, ext_get_or}
use lib.Pow.{pow_pos, pow-add, shr-shr}
use lib.Arith.{digits_lt, digits_div, digits_mod}
use Rattle.lists.specs.Loops.{tab}
use Rattle.lists.proofs.Tables.{length-tab, get_or-tab, tab-ext, all-tab}
use Rattle.bits.specs.Bits.{bits_of, bits, value, grouped, Small}

-- ---- the bits of a number, and of a list of numbers
pub length-bits_of : (w x : ℕ) → length (bits_of w x) ≡ w
unfolding bits_of
length-bits_of zero x = refl
length-bits_of (suc w) x = ap suc (length-bits_of w x)

bits_of-at : (w x r t : ℕ) → r + 1 + t ≡ w → get_or (bits_of w x) r 0 ≡ x / 2 ^ t % 2
unfolding bits_of
bits_of-at zero x r t h = omega arith
bits_of-at (suc w) x zero t h = let e : w ≡ t = omega arith in rw e
bits_of-at (suc w) x (suc r) t h = bits_of-at w x r t (omega arith)

pub length-bits : (w : ℕ) (xs : List ℕ) → length (bits w xs) ≡ w * length xs
unfolding bits
length-bits w [] = sym (mul-zero w)
length-bits w (x ∷ xs) = rw (length-append, length-bits_of, length-bits w xs, mul-suc) (omega arith)

-- a part that begins at a number is the string of the numbers from there on
pub bits-drop : (w q : ℕ) (xs : List ℕ) → drop (w * q) (bits w xs) ≡ bits w (drop q xs)
unfolding bits
bits-drop w q [] = rw (drop-nil, drop-nil)
bits-drop w zero (x ∷ xs) = rw mul-zero
bits-drop w (suc q) (x ∷ xs) =
    let e : w * suc q ≡ length (bits_of w x) + w * q = rw (length-bits_of, mul-suc) (omega arith) in
    rw (e, drop-append-add) (bits-drop w q xs)

pub bits-append : (w : ℕ) (xs ys : List ℕ) → bits w (xs ++ ys) ≡ bits w xs ++ bits w ys
unfolding bits
bits-append w [] ys = refl
bits-append w (x ∷ xs) ys = rw (bits-append w xs ys, append_assoc)

pub bits-at : (w : ℕ) (xs : List ℕ) (i r t : ℕ) → r + 1 + t ≡ w → get_or (bits w xs) (w * i + r) 0 ≡ get_or xs i 0 / 2 ^ t % 2
unfolding bits
bits-at w [] i r t h = rw (zero-div, zero-mod)
bits-at w (x ∷ xs) zero r t h =
    let l : r < length (bits_of w x) = rw length-bits_of (omega arith) in
    rw (mul-zero, zero-add, get_or-append) (bits_of-at w x r t h)
bits-at w (x ∷ xs) (suc i) r t h =
    let e : w * suc i + r ≡ length (bits_of w x) + (w * i + r) = rw length-bits_of (omega (arith, mul-suc w i)) in
    rw (e, get_or-append-add) (bits-at w xs i r t h)

-- ---- the number of a string of bits
-- each of l is a bit
abbrev pub Bits : List ℕ → Type 0
Bits l = (k : ℕ) → get_or l k 0 < 2

bits_of-bit : (w x : ℕ) → Bits (bits_of w x)
unfolding bits_of
bits_of-bit zero x k = omega arith
bits_of-bit (suc w) x zero = mod-lt (x / 2 ^ w) (omega arith)
bits_of-bit (suc w) x (suc k) = bits_of-bit w x k

append-bit : (l r : List ℕ) → Bits l → Bits r → Bits (l ++ r)
append-bit l r f g k = go (dec_lt k (length l))
  where
    go : Dec (k < length l) → get_or (l ++ r) k 0 < 2
    go (yes h) = rw (get_or-append l r 0 k h) (f k)
    go (no h) =
        let e : k ≡ length l + (k - length l) = omega arith in
        rw (ap (λ (n : ℕ). get_or (l ++ r) n 0) e, get_or-append-add) (g (k - length l))

pub bits-bit : (w : ℕ) (xs : List ℕ) → Bits (bits w xs)
unfolding bits
bits-bit w [] k = omega arith
bits-bit w (x ∷ xs) k = append-bit (bits_of w x) (bits w xs) (bits_of-bit w x) (bits-bit w xs) k

pub drop-bit : (n : ℕ) (l : List ℕ) → Bits l → Bits (drop n l)
drop-bit n l f k = rw get_or-drop (f (n + k))

pub value-lt : (n : ℕ) (l : List ℕ) → Bits l → value n l < 2 ^ n
unfolding value
value-lt zero l f = pow_pos 0
value-lt (suc n) l f = rw double (digits_lt (value-lt n l f) (f n))
  where
    double : 2 ^ suc n ≡ 2 ^ n * 2
    double = let e : suc n ≡ n + 1 = omega arith in rw (e, pow-add)

-- a longer string's number, in two parts
pub value-add : (n k : ℕ) (l : List ℕ) → value (n + k) l ≡ value n l * 2 ^ k + value k (drop n l)
unfolding value
value-add n zero l = rw (add-zero, add-zero) (omega arith)
value-add n (suc k) l =
    let e : 2 ^ suc k ≡ 2 ^ k * 2 = (let i : suc k ≡ k + 1 = omega arith in rw (i, pow-add)) in
    rw (add-suc, value-add n k l, get_or-drop, e, add-mul, mul_assoc, add_assoc)

-- it depends on those bits alone
pub value_same : (n : ℕ) (l r : List ℕ) → ((k : ℕ) → k < n → get_or l k 0 ≡ get_or r k 0) → value n l ≡ value n r
unfolding value
value_same zero l r h = refl
value_same (suc n) l r h = rw (value_same n l r (λ k g. h k (omega arith)), h n (omega arith))

pub value-nil : (n : ℕ) → value n [] ≡ 0
unfolding value
value-nil zero = refl
value-nil (suc n) = rw (value-nil n)

-- a number that is zero has zero bits
pub value_none : (n : ℕ) (l : List ℕ) → value n l ≡ 0 → (k : ℕ) → k < n → get_or l k 0 ≡ 0
unfolding value
value_none zero l z k h = omega arith
value_none (suc n) l z k h = go (value_none n l (omega arith) k) (dec_lt k n)
  where
    go : (k < n → get_or l k 0 ≡ 0) → Dec (k < n) → get_or l k 0 ≡ 0
    go f (yes g) = f g
    go f (no g) = let e : k ≡ n = omega arith in rw e (omega arith)

-- ---- numbers and their bits
module _ (w x : ℕ) (small : x < 2 ^ w) (l : List ℕ) where
  -- the first k bits of x write x without the t below them
  value-front : (k t : ℕ) → k + t ≡ w → value k (bits_of w x ++ l) ≡ x / 2 ^ t
  unfolding value
  value-front zero t h = let e : t ≡ w = omega arith in rw e (sym (div-eq_of_lt small))
  value-front (suc k) t h =
      let at : k < length (bits_of w x) = rw length-bits_of (omega arith) in
      rw (value-front k (t + 1) (omega arith), get_or-append (bits_of w x) l 0 k at, bits_of-at w x k t (omega arith), ← shr-shr x t 1)
      (div-add-mod' (x / 2 ^ t) 2)

-- the first w bits of a list of w-bit numbers are its first number
pub value-first : (w : ℕ) (xs : List ℕ) → Small w xs → value w (bits w xs) ≡ get_or xs 0 0
unfolding bits
value-first w [] small = value-nil w
value-first w (x ∷ xs) small = value-front w x (small 0) (bits w xs) w 0 (omega arith) ∙ div-one x

-- the first k numbers of xs as one number in base 2 ^ w
unfoldable pub digits : ℕ → List ℕ → ℕ → ℕ
digits w xs zero = 0
digits w xs (suc k) = digits w xs k * 2 ^ w + get_or xs k 0

pub drop-small : (w q : ℕ) (xs : List ℕ) → Small w xs → Small w (drop q xs)
drop-small w q xs small i = rw get_or-drop (small (q + i))

module _ (w : ℕ) (xs : List ℕ) (small : Small w xs) where
  -- number i is what w bits at w * i write
  pub value-number : (i : ℕ) → value w (drop (w * i) (bits w xs)) ≡ get_or xs i 0
  value-number i = rw (bits-drop, value-first w (drop i xs) (drop-small w i xs small), get_or-drop, add-zero)

  value-digits : (k : ℕ) → value (w * k) (bits w xs) ≡ digits w xs k
  unfolding digits value
  value-digits zero = rw mul-zero
  value-digits (suc k) =
      let e : w * suc k ≡ w * k + w = omega (arith, mul-suc w k) in
      rw (e, value-add, value-digits k, value-number k)

-- what stands above b bits and below them falls away
between : (v a b t : ℕ) (l : List ℕ) → Bits l → v ≡ value (a + b + t) l → v / 2 ^ t % 2 ^ b ≡ value b (drop a l)
between v a b t l f e =
    rw (e, value-add (a + b) t l, digits_div (value (a + b) l) (value-lt t (drop (a + b) l) (drop-bit (a + b) l f)), value-add a b l)
    (digits_mod (value a l) (value-lt b (drop a l) (drop-bit a l f)))

-- b bits within k numbers at q, r bits before and t bits after them: what code that reads k numbers computes
pub window : (w : ℕ) (xs : List ℕ) → Small w xs → (b q r k t : ℕ) → r + b + t ≡ w * k
    → value b (drop (w * q + r) (bits w xs)) ≡ digits w (drop q xs) k / 2 ^ t % 2 ^ b
window w xs small b q r k t h =
    let ys : List ℕ = drop q xs in
    rw (← drop-drop, bits-drop)
    (sym (between (digits w ys k) r b t (bits w ys) (bits-bit w ys) (sym (rw h (value-digits w ys (drop-small w q xs small) k)))))

-- ---- grouping
pub length-grouped : (n m : ℕ) (l : List ℕ) → length (grouped n m l) ≡ n
unfolding grouped
length-grouped zero m l = refl
length-grouped (suc n) m l = ap suc (length-grouped n m (drop m l))

pub grouped-at : (n m : ℕ) (l : List ℕ) (i : ℕ) → i < n → get_or (grouped n m l) i 0 ≡ value m (drop (m * i) l)
unfolding grouped
grouped-at zero m l i h = omega arith
grouped-at (suc n) m l zero h = rw mul-zero
grouped-at (suc n) m l (suc i) h =
    let e : m * suc i ≡ m + m * i = omega (arith, mul-suc m i) in
    rw (e, ← drop-drop) (grouped-at n m (drop m l) i (omega arith))

pub grouped-tab : (n m : ℕ) (l : List ℕ) → grouped n m l ≡ tab n (λ i. value m (drop (m * i) l))
grouped-tab n m l =
    let f : ℕ → ℕ = λ i. value m (drop (m * i) l) in
    ext_get_or 0 (grouped n m l) (tab n f) (length-grouped n m l ∙ sym (length-tab n f))
    λ i h'. let h : i < n = rw length-grouped at h' in grouped-at n m l i h ∙ sym (get_or-tab n f i h)

pub grouped-small : (n m : ℕ) (l : List ℕ) → Bits l → Small m (grouped n m l)
grouped-small n m l f =
    rw grouped-tab (all-tab (λ x. x < 2 ^ m) n (λ i. value m (drop (m * i) l)) (pow_pos m) (λ i. value-lt m (drop (m * i) l) (drop-bit (m * i) l f)))

-- n numbers depend on the first m * n bits alone
pub grouped-same : (n m : ℕ) (l r : List ℕ) → ((k : ℕ) → k < m * n → get_or l k 0 ≡ get_or r k 0) → grouped n m l ≡ grouped n m r
grouped-same n m l r h =
    rw (grouped-tab, grouped-tab n m r)
    (tab-ext n (λ i. value m (drop (m * i) l)) (λ i. value m (drop (m * i) r))
    λ i g. value_same m (drop (m * i) l) (drop (m * i) r)
    λ k b. rw (get_or-drop, get_or-drop) (h (m * i + k) (omega (arith, mul-le-mul_left m g, mul-suc m i))))

-- numbers to bits to numbers
pub grouped-bits : (w : ℕ) (xs : List ℕ) → Small w xs → grouped (length xs) w (bits w xs) ≡ xs
grouped-bits w xs small =
    ext_get_or 0 (grouped (length xs) w (bits w xs)) xs (length-grouped (length xs) w (bits w xs))
    λ i h'. let h : i < length xs = rw length-grouped at h' in grouped-at (length xs) w (bits w xs) i h ∙ value-number w xs small i

-- a bit of a number is the bit it was made of
value-bit : (l : List ℕ) → Bits l → (m r t : ℕ) → r + 1 + t ≡ m → value m l / 2 ^ t % 2 ≡ get_or l r 0
unfolding value
value-bit l f m r t h =
    between (value m l) r 1 t l f (ap (λ (n : ℕ). value n l) (sym h)) ∙ rw (get_or-drop, add-zero, zero-mul, zero-add)

-- bits to numbers to bits: all that went into a number comes back, and nothing else
pub bits-grouped : (n m : ℕ) (l : List ℕ) → Bits l → (k : ℕ) → k < m * n → get_or (bits m (grouped n m l)) k 0 ≡ get_or l k 0
bits-grouped n m l f k h = go (dec_lt 0 m)
  where
    go : Dec (0 < m) → get_or (bits m (grouped n m l)) k 0 ≡ get_or l k 0
    go (no z) = let e : m ≡ 0 = omega arith in omega (arith, rw (e, zero-mul) at h)
    go (yes pos) =
        let e : m * (k / m) + k % m ≡ k = div-add-mod k m in
        let g : k % m < m = mod-lt k pos in
        let i : k / m < n = (div-lt_iff_lt-mul pos).1 (rw mul_comm at h) in
        let v : get_or (bits m (grouped n m l)) (m * (k / m) + k % m) 0 ≡ get_or l (m * (k / m) + k % m) 0 =
        bits-at m (grouped n m l) (k / m) (k % m) (m - (k % m + 1)) (omega arith)
        ∙ ap (λ (x : ℕ). x / 2 ^ (m - (k % m + 1)) % 2) (grouped-at n m l (k / m) i)
        ∙ value-bit (drop (m * (k / m)) l) (drop-bit (m * (k / m)) l f) m (k % m) (m - (k % m + 1)) (omega arith)
        ∙ get_or-drop (m * (k / m)) l (k % m) 0 in
        rw e at v

pub bits-past : (n m : ℕ) (l : List ℕ) (k : ℕ) → m * n ≤ k → get_or (bits m (grouped n m l)) k 0 ≡ 0
bits-past n m l k h =
    let g : length (bits m (grouped n m l)) ≤ k = rw (length-bits, length-grouped) h in
    get_or-eq_default (bits m (grouped n m l)) 0 g
