-- The elements that setup draws, each read where it lies in the random bytes, and the non-zero ones among them.
use Rattle.std.proofs.Common.{◌≡◌, refl, sym, ap, ◌∙◌, ℕ, ◌+◌, ◌-◌, ◌*◌, ◌≤◌, ◌<◌, List, [], ◌∷◌, ◌++◌, true, false, Bool, length, get_or, set, length-set, take, drop, min, append-nil, add-one, zero-add, arith}
use native.Mathlib.Nat.{mul-le-mul_left, mul-add, mul-one}
use lib.Dec.{eqb}
use native.Mathlib.Decide.{dec_lt}
use lib.ListN.{take-append-drop, length-append, length-drop, length-take}
use lib.Seq.{length-take-le, take-suc, take-suc-set, take-add, take_at, take_all}
use borrow.Author.Tests.{ne_eqb}
use Rattle.lists.specs.Loops.{pick, tab}
use Rattle.lists.proofs.Tables.{get_or-tab, tab-ext, length-tab}
use Rattle.bits.specs.Bits.{bits_at, bytes_for, elements_at, elements_in}
use Rattle.bits.proofs.Packing.{elements-from, elements_at-tab, elements_in-bytes_for}
use Rattle.bits.proofs.Keys.{bits_at-front}
use Rattle.sets.specs.declared.Set.{Set}
use Rattle.sets.specs.Valid.{Valid, setup_elements}
use Rattle.scheme.specs.Lists.{non_zero}
use Rattle.scheme.specs.Setup.{drawn, usable, multipliers, block_elements}

module _ (s : Set) (random : List ℕ) (v : Valid s) (long : length random ≡ s.random) where
  abbrev end : ℕ
  end = bytes_for s.m (setup_elements s)

  abbrev at : ℕ → ℕ
  at i = bits_at s.m random (s.m * i)

  taken : length (take end random) ≡ end
  taken = length-take-le end random (omega (arith, v.random_is))

  drawn-tab : drawn s random ≡ tab (setup_elements s) at
  unfolding drawn
  drawn-tab =
      let count : elements_in s.m (length (take end random)) ≡ setup_elements s = rw taken (elements_in-bytes_for s.m (setup_elements s) v.narrow) in
      elements-from s.m (take end random)
      ∙ ap (λ (n : ℕ). elements_at n s.m (take end random) 0) count
      ∙ elements_at-tab (setup_elements s) s.m (take end random) 0
      ∙ tab-ext (setup_elements s) _ at same
    where
      same : (i : ℕ) → i < setup_elements s → bits_at s.m (take end random) (0 + s.m * i) ≡ at i
      same i h =
          let within : s.m * i + s.m ≤ 8 * length (take end random) =
          rw taken (omega (arith, mul-le-mul_left {m = i + 1} {n = setup_elements s} s.m (omega arith), mul-add s.m i 1, mul-one s.m)) in
          ap (bits_at s.m (take end random)) (zero-add (s.m * i))
          ∙ sym (bits_at-front s.m (take end random) (drop end random) (s.m * i) within)
          ∙ ap (λ (l : List ℕ). bits_at s.m l (s.m * i)) (take-append-drop end random)

  pub length-drawn : length (drawn s random) ≡ setup_elements s
  length-drawn = rw drawn-tab (length-tab (setup_elements s) at)

  pub drawn_at : (i : ℕ) → i < setup_elements s → bits_at s.m random (s.m * i) ≡ get_or (drawn s random) i 0
  drawn_at i h = rw drawn-tab (sym (get_or-tab (setup_elements s) at i h))

  pub drawn_more : (from count i : ℕ) → from + count ≤ setup_elements s → i < count → i < length (drop from (drawn s random))
  drawn_more from count i h lt = rw (length-drop, length-drawn) (omega arith)

-- ---- a list without its zeros
pub non_zero-append : (a b : List ℕ) → non_zero (a ++ b) ≡ non_zero a ++ non_zero b
unfolding non_zero
non_zero-append [] b = refl
non_zero-append (x ∷ a) b = go (eqb x 0) (non_zero-append a b)
  where
    go : (t : Bool) → non_zero (a ++ b) ≡ non_zero a ++ non_zero b → pick t (non_zero (a ++ b)) (x ∷ non_zero (a ++ b)) ≡ pick t (non_zero a) (x ∷ non_zero a) ++ non_zero b
    go true e = e
    go false e = ap (λ (l : List ℕ). x ∷ l) e

pub non_zero-short : (l : List ℕ) → length (non_zero l) ≤ length l
unfolding non_zero
non_zero-short [] = omega arith
non_zero-short (x ∷ l) = go (eqb x 0) (non_zero-short l)
  where
    go : (t : Bool) → length (non_zero l) ≤ length l → length (pick t (non_zero l) (x ∷ non_zero l)) ≤ length (x ∷ l)
    go true h = omega arith
    go false h = omega arith

-- the block search gets all its elements
pub searched : (s : Set) (random kept : List ℕ) (room count : ℕ) → room ≡ 4 * s.w + 20
    → count ≡ min room (length (non_zero (take (4 * s.w + 20) (drop (s.n + 5) (drawn s random)))))
    → take count kept ≡ take count (non_zero (take (4 * s.w + 20) (drop (s.n + 5) (drawn s random))))
    → take count kept ≡ block_elements s random
unfolding block_elements
searched s random kept room count q e front =
    let all : length (non_zero (take (4 * s.w + 20) (drop (s.n + 5) (drawn s random)))) ≤ count =
    omega (arith, non_zero-short (take (4 * s.w + 20) (drop (s.n + 5) (drawn s random))), length-take (4 * s.w + 20) (drop (s.n + 5) (drawn s random))) in
    front ∙ take_all count (non_zero (take (4 * s.w + 20) (drop (s.n + 5) (drawn s random)))) all

-- the first elements that are usable are the multipliers
module _ (s : Set) (random kept : List ℕ) (room count : ℕ) (is : count ≡ min room (length (non_zero (take (s.n + 5) (drop 0 (drawn s random)))))) (full : room ≡ s.n) where
  pub few_usable : count < s.n → length (usable s random) < s.n
  unfolding usable
  few_usable h = omega (arith, is)

  pub enough_usable : s.n ≤ count → s.n ≤ length (usable s random)
  unfolding usable
  enough_usable h = omega (arith, is)

  pub first_usable : s.n ≤ count → length kept ≡ room → take count kept ≡ take count (non_zero (take (s.n + 5) (drop 0 (drawn s random)))) → kept ≡ multipliers s random
  unfolding usable multipliers
  first_usable h long front =
      let q : count ≡ s.n = omega (arith, is) in
      let whole : length kept ≡ s.n = omega arith in
      sym (take_all s.n kept (omega arith)) ∙ rw q at front

-- the first i elements of d have been seen: their non-zero ones stand at the front of what is kept
pub record Keeping (d : List ℕ) (i found : ℕ) (kept : List ℕ) : Type 0 where
  pub within : found ≤ length kept
  pub count : length (non_zero (take i d)) ≡ found
  pub front : take found kept ≡ non_zero (take i d)

pub keep_none : (d kept : List ℕ) → Keeping d 0 0 kept
unfolding non_zero
keep_none d kept = record { within = omega arith; count = refl; front = refl }

module _ (d : List ℕ) (i found : ℕ) (kept : List ℕ) (v : Keeping d i found kept) where
  next : i < length d → non_zero (take (i + 1) d) ≡ non_zero (take i d) ++ non_zero (get_or d i 0 ∷ [])
  next lt = ap (λ (n : ℕ). non_zero (take n d)) (add-one i) ∙ ap non_zero (take-suc d i 0 lt) ∙ non_zero-append (take i d) (get_or d i 0 ∷ [])

  pub keep_zero : i < length d → get_or d i 0 ≡ 0 → Keeping d (i + 1) found kept
  unfolding non_zero
  keep_zero lt e =
      let same : non_zero (take (i + 1) d) ≡ non_zero (take i d) = next lt ∙ rw (e, append-nil) in
      record { within = v.within; count = rw same v.count; front = rw same v.front }

  pub keep_more : i < length d → (x : ℕ) → x ≡ get_or d i 0 → (x ≡ 0 → ⊥) → found < length kept → Keeping d (i + 1) (found + 1) (set kept found x)
  unfolding non_zero
  keep_more lt x e ne room =
      let more : non_zero (take (i + 1) d) ≡ non_zero (take i d) ++ (x ∷ []) = next lt ∙ rw (← e, ne_eqb x 0 ne) in
      let front : take (found + 1) (set kept found x) ≡ take found kept ++ (x ∷ []) = rw (add-one found) (take-suc-set kept found x room) in
      record {
        within = simp length-set (omega arith);
        count = rw (more, length-append) (omega (arith, v.count));
        front = rw more (front ∙ ap (λ (l : List ℕ). l ++ (x ∷ [])) v.front);
      }

  -- all have been seen, or there is no more room
  pub keep_end : (count room : ℕ) → length kept ≡ room → i ≤ count → (found < room → count ≤ i)
      → (found ≡ min room (length (non_zero (take count d)))) × (take found kept ≡ take found (non_zero (take count d)))
  keep_end count room long le last = go (dec_lt found room)
    where
      split : non_zero (take count d) ≡ non_zero (take i d) ++ non_zero (take (count - i) (drop i d))
      split =
          let q : count ≡ i + (count - i) = omega arith in
          ap (λ (n : ℕ). non_zero (take n d)) q ∙ ap non_zero (take-add i (count - i) d) ∙ non_zero-append (take i d) (take (count - i) (drop i d))

      longer : length (non_zero (take count d)) ≡ found + length (non_zero (take (count - i) (drop i d)))
      longer = ap length split ∙ rw (length-append, v.count)

      front : take found kept ≡ take found (non_zero (take count d))
      front = v.front ∙ sym (rw split (take_at (non_zero (take i d)) (non_zero (take (count - i) (drop i d))) found v.count))

      go : Dec (found < room) → (found ≡ min room (length (non_zero (take count d)))) × (take found kept ≡ take found (non_zero (take count d)))
      go (yes h) =
          let z : count ≡ i = omega (arith, last h) in
          let e : length (non_zero (take count d)) ≡ found = rw z v.count in
          (omega arith, front)
      go (no h) = (omega (arith, longer, v.within), front)
