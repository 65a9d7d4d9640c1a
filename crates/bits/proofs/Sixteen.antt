-- 16-bit numbers: there and back.
use mathlib.Core.Path.{◌≡◌, refl, sym, ◌∙◌, ap}
use mathlib.Core.Bool.{true}
use mathlib.Core.List.{List, [], ◌∷◌, ◌++◌}
use Prim.Native.Nat.{ℕ, zero, suc, ◌+◌, ◌*◌, ◌/◌, ◌%◌, ◌^◌, ◌<◌}
use native.Mathlib.Nat.{zero-mul, zero-add, add-zero, div-one, mod-eq_of_lt}
use native.Mathlib.Decide.{dec_lt}
use native.Mathlib.Omega.{arith}
use lib.ListN.{length, get_or}
use lib.Seq.{ext_get_or, get_or-drop}
use Rattle.lists.specs.Loops.{tab}
use Rattle.lists.proofs.Tables.{length-tab, get_or-tab, tab-ext}
use Rattle.bits.specs.Bits.{bits_at, elements, elements_in, packed, tail_zero, Small}
use Rattle.bits.specs.Numbers.{number16, numbers16, bytes16}
use Rattle.bits.proofs.Strings.{digits, window}
use Rattle.bits.proofs.Packing.{elements-from, elements_at-tab, elements-small, packed-elements, no-tail}

pub length-numbers16 : (bs : List ℕ) → length (numbers16 bs) ≡ length bs / 2
unfolding numbers16
length-numbers16 bs = length-tab (length bs / 2) (number16 bs)

pub numbers16-at : (bs : List ℕ) (i : ℕ) → 2 * i + 1 < length bs → get_or (numbers16 bs) i 0 ≡ number16 bs i
unfolding numbers16
numbers16-at bs i h = get_or-tab (length bs / 2) (number16 bs) i (omega arith)

pub number16-lt : (bs : List ℕ) → Small 8 bs → (i : ℕ) → number16 bs i < 2 ^ 16
number16-lt bs small i = omega (arith, small (2 * i), small (2 * i + 1))

pub length-bytes16 : (xs : List ℕ) → length (bytes16 xs) ≡ 2 * length xs
unfolding bytes16
length-bytes16 [] = refl
length-bytes16 (x ∷ xs) = omega (arith, length-bytes16 xs)

pub bytes16-high : (xs : List ℕ) (i : ℕ) → get_or (bytes16 xs) (2 * i) 0 ≡ get_or xs i 0 / 256 % 256
unfolding bytes16
bytes16-high [] i = refl
bytes16-high (x ∷ xs) zero = refl
bytes16-high (x ∷ xs) (suc i) = let e : 2 * suc i ≡ suc (suc (2 * i)) = omega arith in rw e (bytes16-high xs i)

pub bytes16-low : (xs : List ℕ) (i : ℕ) → get_or (bytes16 xs) (2 * i + 1) 0 ≡ get_or xs i 0 % 256
unfolding bytes16
bytes16-low [] i = refl
bytes16-low (x ∷ xs) zero = refl
bytes16-low (x ∷ xs) (suc i) = let e : 2 * suc i + 1 ≡ suc (suc (2 * i + 1)) = omega arith in rw e (bytes16-low xs i)

pub bytes16-small : (xs : List ℕ) → Small 8 (bytes16 xs)
unfolding bytes16
bytes16-small [] i = omega arith
bytes16-small (x ∷ xs) zero = omega arith
bytes16-small (x ∷ xs) (suc zero) = omega arith
bytes16-small (x ∷ xs) (suc (suc i)) = bytes16-small xs i

pub bytes16-append : (xs ys : List ℕ) → bytes16 (xs ++ ys) ≡ bytes16 xs ++ bytes16 ys
unfolding bytes16
bytes16-append [] ys = refl
bytes16-append (x ∷ xs) ys = rw (bytes16-append xs ys)

-- ---- numbers to bytes to numbers, and back
pub numbers16-bytes16 : (xs : List ℕ) → Small 16 xs → numbers16 (bytes16 xs) ≡ xs
unfolding numbers16
numbers16-bytes16 xs small =
    rw length-bytes16
    (ext_get_or 0 (tab (2 * length xs / 2) (number16 (bytes16 xs))) xs (length-tab (2 * length xs / 2) (number16 (bytes16 xs)) ∙ omega arith)
    λ i h'. let h : i < 2 * length xs / 2 = rw length-tab at h' in
    get_or-tab (2 * length xs / 2) (number16 (bytes16 xs)) i h ∙ rw (bytes16-high, bytes16-low) (omega (arith, small i)))

pub bytes16-injective : (xs ys : List ℕ) → Small 16 xs → Small 16 ys → bytes16 xs ≡ bytes16 ys → xs ≡ ys
bytes16-injective xs ys sx sy e = sym (numbers16-bytes16 xs sx) ∙ ap numbers16 e ∙ numbers16-bytes16 ys sy

-- ---- the same as elements of sixteen bits
number16-bits_at : (bs : List ℕ) → Small 8 bs → (i : ℕ) → number16 bs i ≡ bits_at 16 bs (16 * i)
unfolding bits_at digits
number16-bits_at bs small i =
    let e : 16 * i ≡ 8 * (2 * i) + 0 = omega arith in
    rw e
    (sym (window 8 bs small 16 (2 * i) 0 2 0 (omega arith)
    ∙ simp (zero-mul, zero-add, get_or-drop, add-zero, div-one) (mod-eq_of_lt (number16-lt bs small i))))

pub numbers16-elements : (bs : List ℕ) → Small 8 bs → numbers16 bs ≡ elements 16 bs
unfolding numbers16
numbers16-elements bs small =
    let e : elements_in 16 (length bs) ≡ length bs / 2 = omega arith in
    sym (elements-from 16 bs ∙ rw (elements_at-tab (elements_in 16 (length bs)) 16 bs 0, e)
    (tab-ext (length bs / 2) (λ i. bits_at 16 bs (0 + 16 * i)) (number16 bs) (λ i h. rw zero-add (sym (number16-bits_at bs small i)))))

pub bytes16-packed : (xs : List ℕ) → Small 16 xs → bytes16 xs ≡ packed 16 xs
bytes16-packed xs small =
    let bs : List ℕ = bytes16 xs in
    let l : length bs ≡ 2 * length xs = length-bytes16 xs in
    let whole : 8 * length bs % 16 ≡ 0 = omega arith in
    let tail : tail_zero 16 bs ≡ true = no-tail 16 bs whole in
    sym (packed-elements 16 bs (bytes16-small xs) (omega arith) tail)
    ∙ ap (packed 16) (sym (numbers16-elements bs (bytes16-small xs)) ∙ numbers16-bytes16 xs small)

-- bytes come back where they are of even number
pub bytes16-numbers16 : (bs : List ℕ) → Small 8 bs → length bs % 2 ≡ 0 → bytes16 (numbers16 bs) ≡ bs
bytes16-numbers16 bs small even =
    let same : numbers16 bs ≡ elements 16 bs = numbers16-elements bs small in
    rw same (bytes16-packed (elements 16 bs) (elements-small 16 bs))
    ∙ packed-elements 16 bs small (omega arith) (no-tail 16 bs (omega arith))

-- ---- bytes that are those of the numbers, two for each, are all that the loop leaves
even_or : {P : Type 0} (i : ℕ) → (i ≡ 2 * (i / 2) → P) → (i ≡ 2 * (i / 2) + 1 → P) → P
even_or {P} i f g = go (dec_lt (i % 2) 1)
  where
    go : Dec (i % 2 < 1) → P
    go (yes h) = f (omega arith)
    go (no h) = g (omega arith)

pub bytes16_of : (s out : List ℕ) → length out ≡ 2 * length s → ((k : ℕ) → k < length s → get_or out (2 * k) 0 ≡ get_or s k 0 / 256 % 256)
    → ((k : ℕ) → k < length s → get_or out (2 * k + 1) 0 ≡ get_or s k 0 % 256) → out ≡ bytes16 s
bytes16_of s out l high low =
    ext_get_or 0 out (bytes16 s) (l ∙ sym (length-bytes16 s))
    (λ i h. let k : i / 2 < length s = omega arith in
    even_or i
    (λ e. rw e (high (i / 2) k ∙ sym (bytes16-high s (i / 2))))
    (λ e. rw e (low (i / 2) k ∙ sym (bytes16-low s (i / 2)))))
