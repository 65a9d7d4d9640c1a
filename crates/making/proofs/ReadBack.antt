-- Keys read back: what a private key was made of, and the GE of a public key.
use mathlib.Core.Path.{◌≡◌, refl, sym, ap, ◌∙◌}
use mathlib.Core.Logic.{◌≢◌}
use mathlib.Core.List.{List, [], ◌∷◌, ◌++◌, append_assoc}
use Prim.Native.Nat.{ℕ, suc, ◌+◌, ◌*◌, ◌^◌, ◌≤◌, ◌<◌}
use native.Mathlib.Nat.{add-zero, mul-zero}
use native.Mathlib.Omega.{arith}
use native.Mathlib.Decide.{dec_lt}
use lib.ListN.{length, get_or, take, drop, length-append, get_or-append, get_or-eq_default}
use lib.Seq.{get_or-take, ext_get_or, take_at, take-length, drop_at, length-take-le}
use Rattle.lists.specs.Parts.{part}
use Rattle.bits.specs.Bits.{packed, elements_at, bytes_for, Small}
use Rattle.bits.specs.Numbers.{numbers16, bytes16}
use Rattle.bits.proofs.Packing.{length-packed, packed-tail}
use Rattle.bits.proofs.Keys.{elements_at-append, packed-part}
use Rattle.bits.proofs.Sixteen.{length-numbers16, numbers16-at, length-bytes16, numbers16-bytes16}
use Rattle.perm.specs.Perm.{Perm}
use Rattle.perm.proofs.Permutations.{entries-low}
use Rattle.sets.specs.declared.Set.{Set}
use Rattle.sets.specs.Valid.{key_elements}
use Rattle.scheme.specs.Keys.{public_key, Private, private_key, lists_end, public_ge, read, WellFormed}

-- the entries of a permutation of at most 65536 are 16-bit numbers
pub perm-small : (p : List ℕ) → Perm p → length p ≤ 65536 → Small 16 p
perm-small p perm h i = go (dec_lt i (length p))
  where
    go : Dec (i < length p) → get_or p i 0 < 2 ^ 16
    go (yes g) = omega (arith, entries-low p perm i g)
    go (no g) = let z : get_or p i 0 ≡ 0 = get_or-eq_default p 0 (omega arith) in omega arith

-- a list of numbers at the front
pub list_back : (q r : List ℕ) (n : ℕ) → Small 16 q → length q ≡ n → take n (numbers16 (bytes16 q ++ r)) ≡ q
list_back q r n small e =
    ext_get_or 0 (take n (numbers16 (bytes16 q ++ r))) q (length-take-le n (numbers16 (bytes16 q ++ r)) many ∙ sym e) at
  where
    lb : length (bytes16 q) ≡ 2 * n
    lb = length-bytes16 q ∙ ap (λ (x : ℕ). 2 * x) e

    all : length (bytes16 q ++ r) ≡ 2 * n + length r
    all = length-append (bytes16 q) r ∙ ap (λ (x : ℕ). x + length r) lb

    many : n ≤ length (numbers16 (bytes16 q ++ r))
    many = rw (length-numbers16, all) (omega arith)

    at : (i : ℕ) → i < length (take n (numbers16 (bytes16 q ++ r))) → get_or (take n (numbers16 (bytes16 q ++ r))) i 0 ≡ get_or q i 0
    at i h =
        let lt : i < n = omega (arith, length-take-le n (numbers16 (bytes16 q ++ r)) many) in
        let high : get_or (bytes16 q ++ r) (2 * i) 0 ≡ get_or (bytes16 q) (2 * i) 0 = get_or-append (bytes16 q) r 0 (2 * i) (omega (arith, lb)) in
        let low : get_or (bytes16 q ++ r) (2 * i + 1) 0 ≡ get_or (bytes16 q) (2 * i + 1) 0 = get_or-append (bytes16 q) r 0 (2 * i + 1) (omega (arith, lb)) in
        get_or-take n (numbers16 (bytes16 q ++ r)) i 0 lt
        ∙ numbers16-at (bytes16 q ++ r) i (omega (arith, all))
        ∙ rw (high, low) (sym (numbers16-at (bytes16 q) i (omega (arith, lb))))
        ∙ ap (λ (x : List ℕ). get_or x i 0) (numbers16-bytes16 q small)

-- a part of packed elements, behind other bytes
pub elements-back : (m : ℕ) (f es : List ℕ) → Small m es → (a k : ℕ) → a + k ≤ length es → elements_at k m (f ++ packed m es) (8 * length f + m * a) ≡ part a k es
elements-back m f es small a k h = elements_at-append k m f (packed m es) (m * a) ∙ packed-part m es small a k h

pub public-back : (s : Set) (ge : List ℕ) → Small s.m ge → length ge ≡ key_elements s → public_ge s (public_key s ge) ≡ ge
unfolding public_ge public_key
public-back s ge small e =
    let z : ◌≡◌ {A = ℕ} 8 (8 * length (s.byte ∷ []) + s.m * 0) = rw mul-zero refl in
    ap (elements_at (key_elements s) s.m (s.byte ∷ packed s.m ge)) z
    ∙ elements-back s.m (s.byte ∷ []) ge small 0 (key_elements s) (omega arith)
    ∙ ap (λ (n : ℕ). take n ge) (sym e)
    ∙ take-length ge

-- the parts of a private key: as long as the set says, numbers of 16 bits and elements
pub record Shaped (s : Set) (κ : Private) : Type 0 where
  pub long_q1 : length κ.q1 ≡ s.n
  pub long_q2 : length κ.q2 ≡ s.n + s.w
  pub long_columns : length κ.columns ≡ 2 * s.w
  pub long_inverses : length κ.inverses ≡ s.n
  pub long_ge : length κ.ge ≡ key_elements s
  pub small_q1 : Small 16 κ.q1
  pub small_q2 : Small 16 κ.q2
  pub small : Small s.m (κ.columns ++ (κ.inverses ++ κ.ge))

module _ (s : Set) (κ : Private) (v : Shaped s κ) where
  abbrev run : List ℕ
  run = κ.columns ++ (κ.inverses ++ κ.ge)

  abbrev front : List ℕ
  front = s.byte ∷ (bytes16 κ.q1 ++ bytes16 κ.q2)

  length-lists : length (bytes16 κ.q1 ++ bytes16 κ.q2) ≡ 2 * s.n + 2 * (s.n + s.w)
  length-lists = rw (length-append, length-bytes16, length-bytes16) (omega (arith, v.long_q1, v.long_q2))

  length_front : length front ≡ lists_end s
  length_front = omega (arith, length-lists)

  split : private_key s κ ≡ front ++ packed s.m run
  unfolding private_key
  split = ap (λ (l : List ℕ). s.byte ∷ l) (sym (append_assoc (bytes16 κ.q1) (bytes16 κ.q2) (packed s.m run)))

  length_run : length run ≡ 2 * s.w + (s.n + key_elements s)
  length_run = rw (length-append, length-append) (omega (arith, v.long_columns, v.long_inverses, v.long_ge))

  q1-back : take s.n (numbers16 (drop 1 (private_key s κ))) ≡ κ.q1
  unfolding private_key
  q1-back = list_back κ.q1 (bytes16 κ.q2 ++ packed s.m run) s.n v.small_q1 v.long_q1

  q2-back : take (s.n + s.w) (numbers16 (drop (1 + 2 * s.n) (private_key s κ))) ≡ κ.q2
  unfolding private_key
  q2-back =
      let e : 1 + 2 * s.n ≡ suc (2 * s.n) = omega arith in
      let l1 : length (bytes16 κ.q1) ≡ 2 * s.n = length-bytes16 κ.q1 ∙ ap (λ (x : ℕ). 2 * x) v.long_q1 in
      let d : drop (2 * s.n) (bytes16 κ.q1 ++ (bytes16 κ.q2 ++ packed s.m run)) ≡ bytes16 κ.q2 ++ packed s.m run = drop_at (bytes16 κ.q1) (bytes16 κ.q2 ++ packed s.m run) (2 * s.n) l1 in
      rw (e, d) (list_back κ.q2 (packed s.m run) (s.n + s.w) v.small_q2 v.long_q2)

  part-back : (a k : ℕ) → a + k ≤ 2 * s.w + (s.n + key_elements s) → elements_at k s.m (private_key s κ) (8 * lists_end s + s.m * a) ≡ part a k run
  part-back a k h = rw (split, ← length_front) (elements-back s.m front run v.small a k (omega (arith, length_run)))

  columns-back : elements_at (2 * s.w) s.m (private_key s κ) (8 * lists_end s) ≡ κ.columns
  columns-back =
      let z : 8 * lists_end s ≡ 8 * lists_end s + s.m * 0 = rw (mul-zero, add-zero) refl in
      ap (elements_at (2 * s.w) s.m (private_key s κ)) z ∙ part-back 0 (2 * s.w) (omega arith) ∙ take_at κ.columns (κ.inverses ++ κ.ge) (2 * s.w) v.long_columns

  inverses-back : elements_at s.n s.m (private_key s κ) (8 * lists_end s + s.m * (2 * s.w)) ≡ κ.inverses
  inverses-back =
      let d : drop (2 * s.w) run ≡ κ.inverses ++ κ.ge = drop_at κ.columns (κ.inverses ++ κ.ge) (2 * s.w) v.long_columns in
      part-back (2 * s.w) s.n (omega arith) ∙ rw d (take_at κ.inverses κ.ge s.n v.long_inverses)

  ge-back : elements_at (key_elements s) s.m (private_key s κ) (8 * lists_end s + s.m * (2 * s.w + s.n)) ≡ κ.ge
  ge-back =
      let l2 : length (κ.columns ++ κ.inverses) ≡ 2 * s.w + s.n = rw length-append (omega (arith, v.long_columns, v.long_inverses)) in
      let d : drop (2 * s.w + s.n) run ≡ κ.ge = rw (← append_assoc) (drop_at (κ.columns ++ κ.inverses) κ.ge (2 * s.w + s.n) l2) in
      part-back (2 * s.w + s.n) (key_elements s) (omega arith) ∙ rw (d, ← v.long_ge) (take-length κ.ge)

  pub private-back : read s (private_key s κ) ≡ κ
  unfolding read
  private-back = rw (q1-back, q2-back, columns-back, inverses-back, ge-back)

  pub private-length : length (private_key s κ) ≡ lists_end s + bytes_for s.m (2 * s.w + (s.n + key_elements s))
  private-length = rw (split, length-append, length_front, length-packed, length_run)

  pub well-formed : 8 ≤ s.m → Perm κ.q1 → Perm κ.q2 → ((i : ℕ) → i < s.n → get_or κ.inverses i 0 ≢ 0) → WellFormed s (private_key s κ)
  well-formed m first second nonzero =
      let d : drop (lists_end s) (front ++ packed s.m run) ≡ packed s.m run = drop_at front (packed s.m run) (lists_end s) length_front in
      record {
        first = rw private-back first;
        second = rw private-back second;
        nonzero = rw private-back nonzero;
        spare = rw (split, d) (packed-tail s.m m run);
      }
