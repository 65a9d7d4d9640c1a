-- Keys: bytes, 16-bit numbers and packed elements one after the other, read at a bit place.
use mathlib.Core.Path.{◌≡◌, sym, ◌∙◌}
use mathlib.Core.List.{List, ◌++◌}
use Prim.Native.Nat.{ℕ, zero, suc, ◌+◌, ◌*◌, ◌≤◌, ◌<◌}
use native.Mathlib.Nat.{mul-add, mul-suc, zero-add, suc-add, mul-zero}
use native.Mathlib.Omega.{arith}
use lib.ListN.{length, get_or, drop, get_or-append}
use lib.Seq.{get_or-drop, get_or-take, drop-drop, drop-append-add, ext_get_or}
use Rattle.lists.specs.Parts.{part}
use Rattle.lists.proofs.Parts.{part_length}
use Rattle.bits.specs.Bits.{bits, grouped, packed, bits_at, elements_at, Small}
use Rattle.bits.proofs.Strings.{bits-drop, bits-append, length-bits, value_same, value-number}
use Rattle.bits.proofs.Packing.{length-elements_at, elements_at-at, bits-packed}

skip : (a b : List ℕ) (i : ℕ) → drop (8 * length a + i) (bits 8 (a ++ b)) ≡ drop i (bits 8 b)
skip a b i = rw (bits-append, ← length-bits 8 a) (drop-append-add (bits 8 a) (bits 8 b) i)

-- past the bytes a, the bits are those of b
pub bits_at-append : (m : ℕ) (a b : List ℕ) (i : ℕ) → bits_at m (a ++ b) (8 * length a + i) ≡ bits_at m b i
unfolding bits_at
bits_at-append m a b i = rw (skip a b i)

pub elements_at-append : (n m : ℕ) (a b : List ℕ) (i : ℕ) → elements_at n m (a ++ b) (8 * length a + i) ≡ elements_at n m b i
unfolding elements_at
elements_at-append n m a b i = rw (skip a b i)

-- within the bytes a, they are those of a
pub bits_at-front : (m : ℕ) (a b : List ℕ) (i : ℕ) → i + m ≤ 8 * length a → bits_at m (a ++ b) i ≡ bits_at m a i
unfolding bits_at
bits_at-front m a b i h =
    value_same m (drop i (bits 8 (a ++ b))) (drop i (bits 8 a))
    λ k g. let l : i + k < length (bits 8 a) = rw length-bits (omega arith) in
    rw (get_or-drop, get_or-drop, bits-append) (get_or-append (bits 8 a) (bits 8 b) 0 (i + k) l)

-- the same of a part of the bytes that is lent
pub bits_at-drop : (m a : ℕ) (bs : List ℕ) (i : ℕ) → bits_at m bs (8 * a + i) ≡ bits_at m (drop a bs) i
unfolding bits_at
bits_at-drop m a bs i = rw (← drop-drop, bits-drop)

pub elements_at-drop : (n m a : ℕ) (bs : List ℕ) (i : ℕ) → elements_at n m bs (8 * a + i) ≡ elements_at n m (drop a bs) i
unfolding elements_at
elements_at-drop n m a bs i = rw (← drop-drop, bits-drop)

split : (n k m : ℕ) (l : List ℕ) → grouped (n + k) m l ≡ grouped n m l ++ grouped k m (drop (m * n) l)
unfolding grouped
split zero k m l = rw (zero-add, mul-zero)
split (suc n) k m l =
    let e : m * suc n ≡ m + m * n = omega (arith, mul-suc m n) in
    rw (suc-add, e, ← drop-drop, split n k m (drop m l))

-- elements that are read in two runs
pub elements_at-add : (n k m : ℕ) (bs : List ℕ) (p : ℕ) → elements_at (n + k) m bs p ≡ elements_at n m bs p ++ elements_at k m bs (p + m * n)
unfolding elements_at
elements_at-add n k m bs p = split n k m (drop p (bits 8 bs)) ∙ rw drop-drop

packed-one : (m : ℕ) (es : List ℕ) → Small m es → (a i : ℕ) → bits_at m (packed m es) (m * a + m * i) ≡ get_or es (a + i) 0
unfolding bits_at
packed-one m es small a i =
    value_same m (drop (m * a + m * i) (bits 8 (packed m es))) (drop (m * a + m * i) (bits m es)) (λ k g. rw (get_or-drop, get_or-drop) (bits-packed m es (m * a + m * i + k)))
    ∙ rw (← mul-add) (value-number m es small (a + i))

-- any run of packed elements reads back
pub packed-part : (m : ℕ) (es : List ℕ) → Small m es → (a k : ℕ) → a + k ≤ length es → elements_at k m (packed m es) (m * a) ≡ part a k es
packed-part m es small a k h =
    ext_get_or 0 (elements_at k m (packed m es) (m * a)) (part a k es) (length-elements_at k m (packed m es) (m * a) ∙ sym (part_length a k es h))
    λ i g'. let g : i < k = rw length-elements_at at g' in
    elements_at-at k m (packed m es) (m * a) i g ∙ packed-one m es small a i ∙ sym (get_or-take k (drop a es) i 0 g ∙ get_or-drop a es i 0)
