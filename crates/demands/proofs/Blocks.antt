-- A random block that fits gives a triple: the first t entries of a shuffle are distinct, so they are t places; and the forced bits
-- of its pad seed don't matter.
use mathlib.Core.Path.{◌≡◌, refl, sym, ap, ap₂, ◌∙◌}
use mathlib.Core.Logic.{◌≢◌}
use mathlib.Core.Bool.{Bool, true, false, not, false≢true}
use mathlib.Core.List.{List}
use Prim.Native.Nat.{ℕ, ◌+◌, ◌*◌, ◌/◌, ◌≤◌, ◌<◌}
use native.Mathlib.Nat.{div-mul-le_self, mul-le-mul_left, mul-suc, mul_comm}
use native.Mathlib.Omega.{arith}
use lib.Seq.{get_or-take, length-take-le}
use lib.ListN.{length, get_or, take, drop}
use Rattle.lists.specs.Loops.{pick}
use Rattle.lists.proofs.Parts.{part_length}
use Rattle.theory.specs.Word.{Places, wt}
use Rattle.bits.specs.Bits.{elements, packed, bytes_for, Small}
use Rattle.bits.specs.Numbers.{bytes16}
use Rattle.bits.proofs.Packing.{length-packed, packed-small}
use Rattle.perm.specs.Perm.{Perm}
use Rattle.perm.specs.Shuffle.{shuffled}
use Rattle.perm.proofs.Permutations.{entries-low, entries-distinct}
use Rattle.perm.proofs.Shuffling.{length-shuffled, shuffled-perm}
use Rattle.sets.specs.declared.Set.{Set}
use Rattle.sets.specs.Valid.{Valid}
use Rattle.scheme.specs.Lists.{has, passing}
use Rattle.scheme.specs.Padding.{lost_bits, cleared}
use Rattle.scheme.specs.Keys.{public_ge}
use Rattle.scheme.specs.Sealing.{triple_elements, error_values, sent, ciphertext, block_seed, block_places, block_at, fits, sealed_by}
use Rattle.pairs.specs.Places.{Listed}
use Rattle.pairs.proofs.Listing.{listed-iff, listed-weight, wt-on, wt-off}
use Rattle.padding.proofs.Cleared.{length-cleared, cleared-cleared, cleared-byte}
use Rattle.padding.proofs.Padding.{padded-cleared}
use Rattle.demands.specs.Demands.{Triple, Sealed}
use Rattle.tie.proofs.Bridge.{K}
use Rattle.tie.proofs.Passing.{passing-listed}
use Rattle.demands.proofs.Errors.{has-none, has_some}
use Rattle.demands.proofs.Sent.{sent-long}
use Rattle.demands.proofs.Triples.{small-take, small-drop}

-- ---- as many numbers pass as the list has, where they are distinct
module _ (s : Set) (l : List ℕ) (n : ℕ) (low : (i : ℕ) → i < length l → get_or l i 0 < n)
    (distinct : (i j : ℕ) → i < length l → j < length l → get_or l i 0 ≡ get_or l j 0 → i ≡ j) where
  -- one at the numbers of the list, zero elsewhere
  mark : Bool → (K s).F
  mark b = pick b (K s).𝟏 (K s).𝟎

  marked : (b : Bool) → b ≡ true → mark b ≢ (K s).𝟎
  unfolding mark
  marked b e z = (K s).one_ne_zero (sym (rw e) ∙ z)

  marked-back : (b : Bool) → mark b ≢ (K s).𝟎 → b ≡ true
  unfolding mark
  marked-back true d = refl
  marked-back false d = absurd (d refl)

  unmarked : (b : Bool) → b ≡ false → mark b ≡ (K s).𝟎
  unfolding mark
  unmarked b e = rw e

  abbrev q : List ℕ
  q = passing (has l) 0 n

  pub listed_has : Listed (λ j. has l j ≡ true) 0 n (length q) (λ a. get_or q a 0)
  listed_has = let e : 0 + n ≡ n = omega arith in rw e at (passing-listed (has l) 0 n)

  pub count-has : length (passing (has l) 0 n) ≡ length l
  count-has =
      let f : ℕ → (K s).F = λ j. mark (has l j) in
      let I : ℕ → ℕ = λ i. get_or l i 0 in
      let places : Places n (length l) I = record { below = low; apart = λ i j h k e. let z : i ≡ j = distinct i j (omega arith) k e in omega arith } in
      let a : wt (K s) f n ≡ length q =
      listed-weight (K s) f n (length q) (λ a. get_or q a 0) (listed-iff (λ j h. marked (has l j)) (λ j h. marked-back (has l j)) listed_has) in
      let b : length l ≤ wt (K s) f n = wt-on (K s) f n (length l) I places (λ i h. marked (has l (get_or l i 0)) (has_some l i h)) in
      let c : wt (K s) f n ≤ length l = wt-off (K s) f n (length l) I (λ j h o. unmarked (has l j) (has-none l j (λ i k e. o i k (sym e)))) in
      omega arith

-- ---- a block
module _ (s : Set) (ok : Valid s) (block : List ℕ) where
  -- the shuffle, and its first t entries
  abbrev order : List ℕ
  order = shuffled (drop s.k3 block) (s.n + s.w) s.t

  abbrev chosen : List ℕ
  chosen = take s.t order

  few : s.t ≤ s.n + s.w
  few = omega (arith, ok.code)

  perm : Perm order
  perm = shuffled-perm (drop s.k3 block) (s.n + s.w) s.t few

  order-long : length order ≡ s.n + s.w
  order-long = length-shuffled (drop s.k3 block) (s.n + s.w) s.t

  chosen-long : length chosen ≡ s.t
  chosen-long = length-take-le s.t order (omega (arith, order-long, few))

  within : (i : ℕ) → i < length chosen → i < length order
  within i h = omega (arith, chosen-long, order-long, few)

  chosen_at : (i : ℕ) → i < length chosen → get_or chosen i 0 ≡ get_or order i 0
  chosen_at i h = get_or-take s.t order i 0 (omega (arith, chosen-long))

  chosen-low : (i : ℕ) → i < length chosen → get_or chosen i 0 < s.n + s.w
  chosen-low i h = omega (arith, chosen_at i h, order-long, entries-low order perm i (within i h))

  chosen-distinct : (i j : ℕ) → i < length chosen → j < length chosen → get_or chosen i 0 ≡ get_or chosen j 0 → i ≡ j
  chosen-distinct i j hi hj e =
      entries-distinct order perm i j (within i hi) (within j hj) (sym (chosen_at i hi) ∙ e ∙ chosen_at j hj)

  pub places-long : length (block_places s block) ≡ s.t
  unfolding block_places
  places-long = count-has s chosen (s.n + s.w) chosen-low chosen-distinct ∙ chosen-long

  pub places-listed : Listed (λ j. has chosen j ≡ true) 0 (s.n + s.w) (length (block_places s block)) (λ a. get_or (block_places s block) a 0)
  unfolding block_places
  places-listed = listed_has s chosen (s.n + s.w) chosen-low chosen-distinct

-- ---- the forced bits of a pad seed don't matter
module _ (s : Set) (msg seed places : List ℕ) where
  pub triple-forced : triple_elements s msg (cleared (lost_bits s) seed) places ≡ triple_elements s msg seed places
  unfolding triple_elements
  triple-forced = ap (elements s.m) (padded-cleared s msg seed (bytes16 places))

  pub values-forced : error_values s msg (cleared (lost_bits s) seed) places ≡ error_values s msg seed places
  unfolding error_values
  values-forced = ap (drop s.k) triple-forced

  pub cipher-forced : (ge : List ℕ) → ciphertext s ge msg (cleared (lost_bits s) seed) places ≡ ciphertext s ge msg seed places
  unfolding ciphertext
  cipher-forced ge =
      ap₂ (λ (a b : List ℕ). packed s.m (sent s ge (take s.k a) places b)) triple-forced values-forced

not-true : (b : Bool) → not b ≡ true → b ≡ false
not-true true e = absurd (false≢true e)
not-true false e = refl

module _ (s : Set) (ok : Valid s) (msg block : List ℕ) (long : length msg ≡ s.k1) (bytes : Small 8 msg) (all : s.k3 ≤ length block) (random : Small 8 block)
    (fit : fits s msg block ≡ true) where
  -- THEOREM (block, triple). A block that fits gives a triple.
  pub block-triple : Triple s msg (cleared (lost_bits s) (block_seed s block)) (block_places s block)
  unfolding fits
  block-triple =
      record {
        msg_long = long;
        msg_bytes = bytes;
        seed_long = length-cleared (lost_bits s) (block_seed s block) ∙ length-take-le s.k3 block all;
        seed_bytes = cleared-byte (lost_bits s) (block_seed s block) (small-take 8 s.k3 block random);
        forced = cleared-cleared (lost_bits s) (block_seed s block);
        count = places-long s ok block;
        rising = λ i j l h. (places-listed s ok block).rising i j l (omega (arith, places-long s ok block));
        below = λ i h. (places-listed s ok block).under i (omega (arith, places-long s ok block));
        values = rw (values-forced s msg (block_seed s block) (block_places s block)) (not-true _ fit);
      }

-- block b of the random bytes
module _ (s : Set) (ok : Valid s) (random : List ℕ) (b : ℕ) (l : b < length random / s.block) where
  block-long : length (block_at s random b) ≡ s.block
  block-long =
      let some : 0 < s.block = omega (arith, ok.block_is, ok.some_seed) in
      part_length (s.block * b) s.block random
      (omega (arith, mul-le-mul_left s.block l, mul-suc s.block b, div-mul-le_self (length random) s.block, mul_comm s.block (length random / s.block)))

  -- THEOREM (sealed). What sealing gives is the ciphertext of a triple with the message.
  pub sealed : (public msg : List ℕ) → length msg ≡ s.k1 → Small 8 msg → Small 8 random → fits s msg (block_at s random b) ≡ true
      → Sealed s public (sealed_by s public msg random b) msg
  unfolding sealed_by
  sealed public msg long bytes small fit =
      let block = block_at s random b in
      record {
        seed = cleared (lost_bits s) (block_seed s block);
        places = block_places s block;
        triple = block-triple s ok msg block long bytes (omega (arith, block-long, ok.block_is)) (small-take 8 s.block _ (small-drop 8 (s.block * b) random small)) fit;
        is = cipher-forced s msg (block_seed s block) (block_places s block) (public_ge s public);
      }

-- ---- the ciphertext of a triple has the set's length
pub cipher-long : (s : Set) → Valid s → (ge msg seed places : List ℕ) → length (ciphertext s ge msg seed places) ≡ s.cipher
unfolding ciphertext
cipher-long s ok ge msg seed places =
    length-packed s.m _ ∙ ap (bytes_for s.m) (sent-long s ge _ places _) ∙ sym ok.cipher_is

pub cipher-bytes : (s : Set) (ge msg seed places : List ℕ) → Small 8 (ciphertext s ge msg seed places)
unfolding ciphertext
cipher-bytes s ge msg seed places = packed-small s.m _
