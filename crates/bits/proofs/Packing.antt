-- Packing there and back: what comes back, lengths and bounds, and that nothing is lost but the tail.
use mathlib.Core.Path.{◌≡◌, refl, sym, ◌∙◌, ap}
use mathlib.Core.List.{List, []}
use mathlib.Core.Bool.{true}
use Prim.Native.Nat.{ℕ, ◌+◌, ◌-◌, ◌*◌, ◌/◌, ◌%◌, ◌^◌, ◌≤◌, ◌<◌}
use native.Mathlib.Nat.{add-zero, zero-add, add-mul, mul_comm, div-add-mod, div-eq_of_lt-le, div-mul-le_self}
use native.Mathlib.Omega.{arith}
use native.Mathlib.Decide.{dec_lt}
use borrow.Author.Tests.{eqb-true, eq-eqb}
use lib.Arith.{digits_div}
use lib.ListN.{length, get_or, drop, get_or-eq_default}
use lib.Seq.{get_or-drop, drop-drop}
use Rattle.lists.specs.Loops.{tab}
use Rattle.lists.proofs.Tables.{tab_of}
use Rattle.bits.specs.Bits.{bits, value, grouped, elements, elements_in, packed, bytes_for, bits_at, elements_at, tail_zero, Small}
use Rattle.bits.proofs.Strings.{Bits, bits-bit, drop-bit, length-bits, value-lt, value_none, value-nil, value_same, value-add, value-number, digits, window, length-grouped, grouped-at, grouped-tab, grouped-small, grouped-same, grouped-bits, bits-grouped, bits-past}

-- ---- lengths and bounds
pub length-elements : (m : ℕ) (bs : List ℕ) → length (elements m bs) ≡ elements_in m (length bs)
unfolding elements
length-elements m bs = length-grouped (elements_in m (length bs)) m (bits 8 bs)

pub length-packed : (m : ℕ) (es : List ℕ) → length (packed m es) ≡ bytes_for m (length es)
unfolding packed
length-packed m es = length-grouped (bytes_for m (length es)) 8 (bits m es)

pub length-elements_at : (n m : ℕ) (bs : List ℕ) (p : ℕ) → length (elements_at n m bs p) ≡ n
unfolding elements_at
length-elements_at n m bs p = length-grouped n m (drop p (bits 8 bs))

pub bits_at-lt : (m : ℕ) (bs : List ℕ) (p : ℕ) → bits_at m bs p < 2 ^ m
unfolding bits_at
bits_at-lt m bs p = value-lt m (drop p (bits 8 bs)) (drop-bit p (bits 8 bs) (bits-bit 8 bs))

pub elements-small : (m : ℕ) (bs : List ℕ) → Small m (elements m bs)
unfolding elements
elements-small m bs = grouped-small (elements_in m (length bs)) m (bits 8 bs) (bits-bit 8 bs)

pub elements_at-small : (n m : ℕ) (bs : List ℕ) (p : ℕ) → Small m (elements_at n m bs p)
unfolding elements_at
elements_at-small n m bs p = grouped-small n m (drop p (bits 8 bs)) (drop-bit p (bits 8 bs) (bits-bit 8 bs))

pub packed-small : (m : ℕ) (es : List ℕ) → Small 8 (packed m es)
unfolding packed
packed-small m es = grouped-small (bytes_for m (length es)) 8 (bits m es) (bits-bit m es)

-- ---- one element
pub elements_at-at : (n m : ℕ) (bs : List ℕ) (p i : ℕ) → i < n → get_or (elements_at n m bs p) i 0 ≡ bits_at m bs (p + m * i)
unfolding elements_at bits_at
elements_at-at n m bs p i h = grouped-at n m (drop p (bits 8 bs)) i h ∙ rw drop-drop

pub elements_at-tab : (n m : ℕ) (bs : List ℕ) (p : ℕ) → elements_at n m bs p ≡ tab n (λ i. bits_at m bs (p + m * i))
unfolding elements_at bits_at
elements_at-tab n m bs p = grouped-tab n m (drop p (bits 8 bs)) ∙ simp drop-drop

pub elements_at_of : (n m : ℕ) (bs : List ℕ) (p : ℕ) (out : List ℕ) → length out ≡ n → ((k : ℕ) → k < n → get_or out k 0 ≡ bits_at m bs (p + m * k)) → out ≡ elements_at n m bs p
elements_at_of n m bs p out l h = tab_of n (λ k. bits_at m bs (p + m * k)) out l h ∙ sym (elements_at-tab n m bs p)

-- all elements are those from the first bit on
pub elements-from : (m : ℕ) (bs : List ℕ) → elements m bs ≡ elements_at (elements_in m (length bs)) m bs 0
unfolding elements elements_at
elements-from m bs = refl

-- for `using` at a function that unpacks all of them
pub ruleset all_elements = (elements-from)

pub elements-at : (m : ℕ) (bs : List ℕ) (i : ℕ) → i < elements_in m (length bs) → get_or (elements m bs) i 0 ≡ bits_at m bs (m * i)
unfolding elements bits_at
elements-at m bs i h = grouped-at (elements_in m (length bs)) m (bits 8 bs) i h

pub packed-tab : (m : ℕ) (es : List ℕ) → packed m es ≡ tab (bytes_for m (length es)) (λ j. value 8 (drop (8 * j) (bits m es)))
unfolding packed
packed-tab m es = grouped-tab (bytes_for m (length es)) 8 (bits m es)

-- bytes that write the string of bits, eight each, are what packing gives
pub packed_of : (m : ℕ) (es out : List ℕ) → length out ≡ bytes_for m (length es) → ((k : ℕ) → k < length out → get_or out k 0 ≡ value 8 (drop (8 * k) (bits m es))) → out ≡ packed m es
packed_of m es out l h = tab_of (length out) (λ k. value 8 (drop (8 * k) (bits m es))) out refl h ∙ rw l (sym (packed-tab m es))

-- the same by division: the bytes are one number, in base 256, and the bits at a place are its digits there
pub bits-number : (m : ℕ) (bs : List ℕ) → Small 8 bs → (p t : ℕ) → p + m + t ≡ 8 * length bs → bits_at m bs p ≡ digits 8 bs (length bs) / 2 ^ t % 2 ^ m
unfolding bits_at
bits-number m bs small p t h = rw (zero-add p) at (window 8 bs small m 0 p (length bs) t h)

-- ---- elements to bytes to elements
-- the bytes have all bits of the elements, and zeros after them
pub bits-packed : (m : ℕ) (es : List ℕ) (k : ℕ) → get_or (bits 8 (packed m es)) k 0 ≡ get_or (bits m es) k 0
unfolding packed
bits-packed m es k = go (dec_lt k (8 * bytes_for m (length es)))
  where
    go : Dec (k < 8 * bytes_for m (length es)) → get_or (bits 8 (grouped (bytes_for m (length es)) 8 (bits m es))) k 0 ≡ get_or (bits m es) k 0
    go (yes h) = bits-grouped (bytes_for m (length es)) 8 (bits m es) (bits-bit m es) k h
    go (no g) =
        let h : 8 * bytes_for m (length es) ≤ k = omega arith in
        let past : length (bits m es) ≤ k = rw length-bits (omega arith) in
        bits-past (bytes_for m (length es)) 8 (bits m es) k h ∙ sym (get_or-eq_default (bits m es) 0 past)

-- for every width: as many elements as went in
pub packed-back : (m : ℕ) (es : List ℕ) → Small m es → elements_at (length es) m (packed m es) 0 ≡ es
unfolding elements_at
packed-back m es small = grouped-same (length es) m (bits 8 (packed m es)) (bits m es) (λ k h. bits-packed m es k) ∙ grouped-bits m es small

pub elements_in-bytes_for : (m f : ℕ) → 8 ≤ m → elements_in m (bytes_for m f) ≡ f
elements_in-bytes_for m f hm = div-eq_of_lt-le m (omega (arith, mul_comm f m)) (rw add-mul (omega (arith, mul_comm f m)))

-- at eight bits or more those are all
pub elements-packed : (m : ℕ) → 8 ≤ m → (es : List ℕ) → Small m es → elements m (packed m es) ≡ es
elements-packed m hm es small = elements-from m (packed m es) ∙ rw (length-packed, elements_in-bytes_for m (length es) hm) (packed-back m es small)

-- no two lists of elements of one length have the same bytes
pub packed-injective : (m : ℕ) (xs ys : List ℕ) → Small m xs → Small m ys → length xs ≡ length ys → packed m xs ≡ packed m ys → xs ≡ ys
packed-injective m xs ys sx sy l e =
    sym (packed-back m xs sx) ∙ ap (λ (z : List ℕ). elements_at (length xs) m z 0) e ∙ ap (λ (n : ℕ). elements_at n m (packed m ys) 0) l ∙ packed-back m ys sy

-- ---- bytes to elements to bytes
whole : (m l : ℕ) → m * elements_in m l ≤ 8 * l
whole m l = omega (arith, div-mul-le_self (8 * l) m, mul_comm m (elements_in m l))

-- the bits of the whole elements come back, and zeros stand for the rest
pub elements-bits : (m : ℕ) (bs : List ℕ) (k : ℕ) → k < m * elements_in m (length bs) → get_or (bits 8 (packed m (elements m bs))) k 0 ≡ get_or (bits 8 bs) k 0
unfolding elements
elements-bits m bs k h = bits-packed m (elements m bs) k ∙ bits-grouped (elements_in m (length bs)) m (bits 8 bs) (bits-bit 8 bs) k h

pub elements-rest : (m : ℕ) (bs : List ℕ) (k : ℕ) → m * elements_in m (length bs) ≤ k → get_or (bits 8 (packed m (elements m bs))) k 0 ≡ 0
unfolding elements
elements-rest m bs k h = bits-packed m (elements m bs) k ∙ bits-past (elements_in m (length bs)) m (bits 8 bs) k h

-- byte by byte: what lies whole within the elements comes back ..
pub byte-back : (m : ℕ) (bs : List ℕ) → Small 8 bs → (j : ℕ) → 8 * j + 8 ≤ m * elements_in m (length bs) → get_or (packed m (elements m bs)) j 0 ≡ get_or bs j 0
byte-back m bs small j h =
    let back : List ℕ = packed m (elements m bs) in
    sym (value-number 8 back (packed-small m (elements m bs)) j)
    ∙ value_same 8 (drop (8 * j) (bits 8 back)) (drop (8 * j) (bits 8 bs)) (λ k g. rw (get_or-drop, get_or-drop) (elements-bits m bs (8 * j + k) (omega arith)))
    ∙ value-number 8 bs small j

value-cut : (l r : List ℕ) → Bits r → (n a t : ℕ) → a + t ≡ n → value a l ≡ value a r → value t (drop a l) ≡ 0 → value n l ≡ value n r / 2 ^ t * 2 ^ t
value-cut l r f n a t e front rest =
    rw (← e, value-add a t l, value-add a t r, digits_div (value a r) (value-lt t (drop a r) (drop-bit a r f)), front, rest) (add-zero (value a r * 2 ^ t))

-- .. and a byte of which the elements have the first a bits comes back with the other t bits zero
pub byte_last : (m : ℕ) (bs : List ℕ) → Small 8 bs → (j a t : ℕ) → a + t ≡ 8 → 8 * j + a ≡ m * elements_in m (length bs)
    → get_or (packed m (elements m bs)) j 0 ≡ get_or bs j 0 / 2 ^ t * 2 ^ t
byte_last m bs small j a t e h =
    let back : List ℕ = packed m (elements m bs) in
    let l : List ℕ = drop (8 * j) (bits 8 back) in
    let r : List ℕ = drop (8 * j) (bits 8 bs) in
    let front : value a l ≡ value a r = value_same a l r (λ k g. rw (get_or-drop, get_or-drop) (elements-bits m bs (8 * j + k) (omega arith))) in
    let rest : value t (drop a l) ≡ 0 =
    value_same t (drop a l) [] (λ k g. rw (get_or-drop, get_or-drop) (elements-rest m bs (8 * j + (a + k)) (omega arith))) ∙ value-nil t in
    sym (value-number 8 back (packed-small m (elements m bs)) j)
    ∙ value-cut l r (drop-bit (8 * j) (bits 8 bs) (bits-bit 8 bs)) 8 a t e front rest
    ∙ ap (λ (x : ℕ). x / 2 ^ t * 2 ^ t) (value-number 8 bs small j)

-- what the test of the tail says of the bits
module _ (m : ℕ) (bs : List ℕ) where
  pub tail_none : tail_zero m bs ≡ true → (k : ℕ) → m * elements_in m (length bs) ≤ k → get_or (bits 8 bs) k 0 ≡ 0
  unfolding tail_zero bits_at
  tail_none z k h = go (dec_lt k (8 * length bs))
    where
      split : m * elements_in m (length bs) + 8 * length bs % m ≡ 8 * length bs
      split = div-add-mod (8 * length bs) m

      go : Dec (k < 8 * length bs) → get_or (bits 8 bs) k 0 ≡ 0
      go (no g) = let past : length (bits 8 bs) ≤ k = rw length-bits (omega arith) in get_or-eq_default (bits 8 bs) 0 past
      go (yes g) =
          let e : m * elements_in m (length bs) + (k - m * elements_in m (length bs)) ≡ k = omega arith in
          let none : value (8 * length bs % m) (drop (m * elements_in m (length bs)) (bits 8 bs)) ≡ 0 = eqb-true _ 0 z in
          rw (get_or-drop, e) at
          (value_none (8 * length bs % m) (drop (m * elements_in m (length bs)) (bits 8 bs)) none (k - m * elements_in m (length bs)) (omega (arith, split)))

  pub none_tail : ((k : ℕ) → m * elements_in m (length bs) ≤ k → get_or (bits 8 bs) k 0 ≡ 0) → tail_zero m bs ≡ true
  unfolding tail_zero bits_at
  none_tail h =
      let l : List ℕ = drop (m * elements_in m (length bs)) (bits 8 bs) in
      let e : value (8 * length bs % m) l ≡ 0 = value_same (8 * length bs % m) l [] (λ k g. rw get_or-drop (h (m * elements_in m (length bs) + k) (omega arith))) ∙ value-nil (8 * length bs % m) in
      eq-eqb (value (8 * length bs % m) l) 0 e

-- bytes that whole elements fill have no tail
pub no-tail : (m : ℕ) (bs : List ℕ) → 8 * length bs % m ≡ 0 → tail_zero m bs ≡ true
unfolding tail_zero bits_at value
no-tail m bs z = rw z

-- the bytes come back where their tail is zero, and they are as many as their elements take
pub packed-elements : (m : ℕ) (bs : List ℕ) → Small 8 bs → bytes_for m (elements_in m (length bs)) ≡ length bs → tail_zero m bs ≡ true → packed m (elements m bs) ≡ bs
unfolding packed
packed-elements m bs small fit z = go ∙ grouped-bits 8 bs small
  where
    at : (k : ℕ) → get_or (bits m (elements m bs)) k 0 ≡ get_or (bits 8 bs) k 0
    at k = go (dec_lt k (m * elements_in m (length bs)))
      where
        go : Dec (k < m * elements_in m (length bs)) → get_or (bits m (elements m bs)) k 0 ≡ get_or (bits 8 bs) k 0
        go (yes h) = sym (bits-packed m (elements m bs) k) ∙ elements-bits m bs k h
        go (no g) =
            let h : m * elements_in m (length bs) ≤ k = omega arith in
            sym (bits-packed m (elements m bs) k) ∙ elements-rest m bs k h ∙ sym (tail_none m bs z k h)

    go : grouped (bytes_for m (length (elements m bs))) 8 (bits m (elements m bs)) ≡ grouped (length bs) 8 (bits 8 bs)
    go = rw (length-elements, fit) (grouped-same (length bs) 8 (bits m (elements m bs)) (bits 8 bs) (λ k h. at k))

-- no two byte strings of one length, both with a zero tail, have the same elements
pub elements-injective : (m : ℕ) (xs ys : List ℕ) → Small 8 xs → Small 8 ys → length xs ≡ length ys → bytes_for m (elements_in m (length xs)) ≡ length xs
    → tail_zero m xs ≡ true → tail_zero m ys ≡ true → elements m xs ≡ elements m ys → xs ≡ ys
elements-injective m xs ys sx sy l w zx zy e = sym (packed-elements m xs sx w zx) ∙ ap (packed m) e ∙ packed-elements m ys sy (rw l at w) zy

-- what is packed has a zero tail
pub packed-tail : (m : ℕ) → 8 ≤ m → (es : List ℕ) → tail_zero m (packed m es) ≡ true
packed-tail m hm es =
    none_tail m (packed m es)
    λ k h.
    let g : m * length es ≤ k = rw (length-packed, elements_in-bytes_for m (length es) hm) at h in
    let past : length (bits m es) ≤ k = rw length-bits g in
    bits-packed m es k ∙ get_or-eq_default (bits m es) 0 past
