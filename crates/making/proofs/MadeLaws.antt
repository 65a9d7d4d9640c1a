-- What a key pair of setup is made of, and what holds of its parts.
use mathlib.Core.Path.{◌≡◌, refl, sym, ap, ◌∙◌}
use mathlib.Core.Logic.{◌≢◌}
use mathlib.Core.Bool.{Bool, true, false}
use mathlib.Core.List.{List, [], ◌∷◌}
use Prim.Native.Nat.{ℕ, zero, suc, ◌+◌, ◌-◌, ◌*◌, ◌/◌, ◌%◌, ◌^◌, ◌≤◌, ◌<◌}
use native.Mathlib.Nat.{mod-lt, div-lt_iff_lt-mul}
use native.Mathlib.Omega.{arith}
use native.Mathlib.Decide.{dec_lt}
use lib.Dec.{eqb}
use lib.ListN.{length, get_or, take, drop, replicate, length-replicate, length-take, get_or-eq_default}
use lib.Seq.{get_or-take, get_or-drop, length-take-le}
use lib.Arith.{lt_of_le-ne}
use lib.Pow.{pow_pos}
use borrow.Author.Tests.{lt-ltb, le-ltb, eqb-false}
use Rattle.lists.specs.Loops.{pick}
use Rattle.lists.proofs.Tables.{get_or-tab}
use Rattle.gf.specs.Ten.{ten}
use Rattle.gf.specs.Field.{width, size}
use Rattle.gf.proofs.Cyclic.{inverse-pos}
use Rattle.gf.proofs.Ten.{ten-field}
use Rattle.bits.specs.Bits.{Small, bytes_for}
use Rattle.bits.proofs.Packing.{elements-small, length-packed}
use Rattle.perm.specs.Perm.{Inverse, Perm}
use Rattle.perm.proofs.Permutations.{inverse-perm, entries-low}
use Rattle.perm.proofs.Inverting.{inverted-inverse, length-inverted}
use Rattle.perm.proofs.Shuffling.{length-shuffled}
use Rattle.sets.specs.declared.Set.{Set}
use Rattle.sets.specs.Valid.{key_elements, Valid}
use Rattle.linear.specs.Elimination.{Done, eliminated}
use Rattle.linear.specs.Matrix.{Matrix}
use Rattle.linear.proofs.Laws.{end-matrix}
use Rattle.scheme.specs.declared.Refusal.TheVariants.{NoWindow, Dependent}
use Rattle.scheme.specs.Lists.{non_zero, inverse_of}
use Rattle.scheme.specs.Matrices.{listed}
use Rattle.scheme.specs.Keys.{Private, public_key, private_key, public_ge, read, WellFormed}
use Rattle.scheme.specs.Setup.{drawn, usable, multipliers, block_elements, Found, found, none, blocks, permutation1, permutation2, window, chain, inverse_columns, inverses, right_part, made, fails, reduced_pair, with_blocks, setup}
use Rattle.making.proofs.Filled.{chain_matrix}
use Rattle.making.proofs.KeyLaws.{length-inverses, inverses-at}
use Rattle.making.proofs.Outcomes.{few_multipliers, few_elements, past-window, first_perm, second_perm, length-columns, length-right, append-small, columns-small, inverses-small, small-as}
use Rattle.making.proofs.BlockLaws.{Blocks, blocks-laws}
use Rattle.making.proofs.ReadBack.{perm-small, public-back, Shaped, private-back, private-length, well-formed}

-- the facts of a set's numbers that the laws of a pair go by
pub record Room (s : Set) : Type 0 where
  pub code : s.k + 2 ≤ s.n
  pub bits : s.m ≡ width ten
  pub places : s.n + s.w ≤ 65536
  pub public_is : s.public ≡ 1 + bytes_for s.m (key_elements s)
  pub private_is : s.private ≡ 1 + 2 * s.n + 2 * (s.n + s.w) + bytes_for s.m (2 * s.w + s.n + key_elements s)

-- every valid set has them
pub room : (s : Set) → Valid s → s.m ≡ width ten → Room s
room s v m =
    record { code = omega (arith, v.code, v.some_t); bits = m; places = v.places; public_is = v.public_is; private_is = v.private_is }

-- with the blocks A and the window p: the end of the reduction, GE, and what the private key holds
abbrev pub end_with : Set → List ℕ → List ℕ → ℕ → Done
end_with s random A p =
    eliminated ten s.k (s.n + s.w) s.k (listed s.k (s.n + s.w) (chain s random A (permutation2 s random p)))

abbrev pub ge_with : Set → List ℕ → List ℕ → ℕ → List ℕ
ge_with s random A p = right_part s (end_with s random A p).mat

abbrev pub key_with : Set → List ℕ → List ℕ → ℕ → Private
key_with s random A p =
    record {
      q1 = inverse_of (permutation1 s random);
      q2 = inverse_of (permutation2 s random p);
      columns = inverse_columns ten A;
      inverses = inverses ten (multipliers s random);
      ge = ge_with s random A p;
    }

-- ---- the permutations
pub length-first : (s : Set) (random : List ℕ) → length (permutation1 s random) ≡ s.n
unfolding permutation1
length-first s random = length-shuffled _ s.n (s.n - 1)

pub length-second : (s : Set) (random : List ℕ) (p : ℕ) → length (permutation2 s random p) ≡ s.n + s.w
unfolding permutation2
length-second s random p = length-shuffled _ (s.n + s.w) (s.n + s.w - 1)

pub length-inverse : (p : List ℕ) → length (inverse_of p) ≡ length p
length-inverse p = length-inverted p (replicate (length p) 0) ∙ length-replicate (length p) 0

-- ---- no window
pub no-window : (s : Set) (random : List ℕ) → s.n ≤ length (usable s random) → (A : List ℕ) → blocks ten s.w (block_elements s random) ≡ found A
    → 5 ≤ window s random → setup s random ≡ fails NoWindow
unfolding setup with_blocks
no-window s random enough A is h = rw (le-ltb (length (usable s random)) s.n enough, is, le-ltb (window s random) 5 h)

-- ---- what a pair is made of
pub record Parts (s : Set) (random public private : List ℕ) (count : ℕ) : Type 0 where
  pub A : List ℕ
  pub p : ℕ
  pub count_is : count ≡ p + 1
  pub window_is : window s random ≡ p
  pub fits : p < 5
  pub enough : s.n ≤ length (usable s random)
  pub blocks_are : blocks ten s.w (block_elements s random) ≡ found A
  pub full : s.k ≤ (end_with s random A p).cols
  pub public_is : public ≡ public_key s (ge_with s random A p)
  pub private_is : private ≡ private_key s (key_with s random A p)

module _ (s : Set) (random public private : List ℕ) (count : ℕ) (e : setup s random ≡ made public private count) where
  reduced-parts : (A : List ℕ) → s.n ≤ length (usable s random) → blocks ten s.w (block_elements s random) ≡ found A → window s random < 5
      → reduced_pair s random A (window s random) ≡ made public private count → Parts s random public private count
  unfolding reduced_pair
  reduced-parts A enough is lt r = go (dec_lt (end_with s random A (window s random)).cols s.k)
    where
      go : Dec ((end_with s random A (window s random)).cols < s.k) → Parts s random public private count
      go (yes h) =
          let f : fails Dependent ≡ made public private count = rw (lt-ltb (end_with s random A (window s random)).cols s.k h) at r in
          absurd (let z : ◌≡◌ {A = ℕ} 0 1 = cc in omega arith)
      go (no h) =
          let f : made (public_key s (ge_with s random A (window s random))) (private_key s (key_with s random A (window s random))) (window s random + 1) ≡ made public private count =
          rw (le-ltb (end_with s random A (window s random)).cols s.k (omega arith)) at r in
          record {
            A = A;
            p = window s random;
            count_is = cc;
            window_is = refl;
            fits = lt;
            enough = enough;
            blocks_are = is;
            full = omega arith;
            public_is = cc;
            private_is = cc;
          }

  found-parts : (x : Found) → blocks ten s.w (block_elements s random) ≡ x → s.n ≤ length (usable s random) → Parts s random public private count
  found-parts none is enough = absurd (let z : ◌≡◌ {A = ℕ} 0 1 = cc (few_elements s random enough is, e) in omega arith)
  found-parts (found A) is enough = go (dec_lt (window s random) 5)
    where
      go : Dec (window s random < 5) → Parts s random public private count
      go (yes h) = reduced-parts A enough is h (sym (past-window s random enough A is h) ∙ e)
      go (no h) = absurd (let z : ◌≡◌ {A = ℕ} 0 1 = cc (no-window s random enough A is (omega arith), e) in omega arith)

  pub parts : Parts s random public private count
  parts = go (dec_lt (length (usable s random)) s.n)
    where
      go : Dec (length (usable s random) < s.n) → Parts s random public private count
      go (yes h) = absurd (let z : ◌≡◌ {A = ℕ} 0 1 = cc (few_multipliers s random h, e) in omega arith)
      go (no h) = found-parts (blocks ten s.w (block_elements s random)) refl (omega arith)

-- ---- the multipliers
non_zero-entries : (l : List ℕ) (i : ℕ) → i < length (non_zero l) → get_or (non_zero l) i 0 ≢ 0
unfolding non_zero
non_zero-entries [] i h = absurd (omega arith)
non_zero-entries (x ∷ l) i h = go (eqb x 0) refl (non_zero-entries l) i h
  where
    go : (t : Bool) → eqb x 0 ≡ t → ((i : ℕ) → i < length (non_zero l) → get_or (non_zero l) i 0 ≢ 0) → (i : ℕ) → i < length (pick t (non_zero l) (x ∷ non_zero l)) → get_or (pick t (non_zero l) (x ∷ non_zero l)) i 0 ≢ 0
    go true q rec i h = rec i h
    go false q rec zero h = eqb-false x 0 q
    go false q rec (suc i) h = rec i (omega arith)

non_zero-small : (m : ℕ) (l : List ℕ) → Small m l → Small m (non_zero l)
unfolding non_zero
non_zero-small m [] s i = s i
non_zero-small m (x ∷ l) s i = go (eqb x 0) (non_zero-small m l (λ j. s (suc j))) i
  where
    go : (t : Bool) → Small m (non_zero l) → (i : ℕ) → get_or (pick t (non_zero l) (x ∷ non_zero l)) i 0 < 2 ^ m
    go true rec i = rec i
    go false rec zero = s 0
    go false rec (suc i) = rec i

take-small : (m n : ℕ) (l : List ℕ) → Small m l → Small m (take n l)
take-small m n l s i = go (dec_lt i n)
  where
    go : Dec (i < n) → get_or (take n l) i 0 < 2 ^ m
    go (yes h) = rw (get_or-take n l i 0 h) (s i)
    go (no h) =
        let past : length (take n l) ≤ i = omega (arith, length-take n l) in
        rw (get_or-eq_default (take n l) 0 past) (pow_pos m)

drop-small : (m n : ℕ) (l : List ℕ) → Small m l → Small m (drop n l)
drop-small m n l s i = rw get_or-drop (s (n + i))

module _ (s : Set) (random : List ℕ) where
  drawn-small : Small s.m (drawn s random)
  unfolding drawn
  drawn-small = elements-small s.m _

  pub multipliers-small : Small s.m (multipliers s random)
  unfolding multipliers usable
  multipliers-small = take-small s.m s.n _ (non_zero-small s.m _ (take-small s.m (s.n + 5) (drawn s random) drawn-small))

  pub multipliers-length : s.n ≤ length (usable s random) → length (multipliers s random) ≡ s.n
  unfolding multipliers
  multipliers-length h = length-take-le s.n (usable s random) h

  pub multipliers-nonzero : s.n ≤ length (usable s random) → (i : ℕ) → i < s.n → get_or (multipliers s random) i 0 ≢ 0
  unfolding multipliers usable
  multipliers-nonzero e i h = rw (get_or-take s.n (usable s random) i 0 h) (non_zero-entries (take (s.n + 5) (drawn s random)) i (omega arith))

  pub block_elements-small : Small s.m (block_elements s random)
  unfolding block_elements
  block_elements-small = non_zero-small s.m _ (take-small s.m (4 * s.w + 20) _ (drop-small s.m (s.n + 5) (drawn s random) drawn-small))

-- ---- the part of the reduced matrix that both keys hold
module _ (s : Set) (random A P2 : List ℕ) (room : Room s) where
  abbrev end : Done
  end = eliminated ten s.k (s.n + s.w) s.k (listed s.k (s.n + s.w) (chain s random A P2))

  reduced-matrix : Matrix ten s.k (s.n + s.w) end.mat
  reduced-matrix = end-matrix ten ten-field s.k (s.n + s.w) s.k (omega arith) (omega (arith, room.code)) _ (chain_matrix s random A P2 _ refl)

  pub reduced-small : Small s.m (right_part s end.mat)
  unfolding right_part listed
  reduced-small = small-as (width ten) s.m (right_part s end.mat) (sym room.bits) (λ i. go i (dec_lt i (key_elements s)))
    where
      go : (i : ℕ) → Dec (i < key_elements s) → get_or (right_part s end.mat) i 0 < size ten
      go i (yes h) =
          let some : 0 < s.n + s.w - s.k = omega (arith, room.code) in
          rw (get_or-tab (key_elements s) _ i h)
          (reduced-matrix.small (i / (s.n + s.w - s.k)) (s.k + i % (s.n + s.w - s.k)) ((div-lt_iff_lt-mul some).1 h) (omega (arith, mod-lt i some)))
      go i (no h) =
          let past : length (right_part s end.mat) ≤ i = omega (arith, length-right s end.mat) in
          let z : get_or (right_part s end.mat) i 0 ≡ 0 = get_or-eq_default (right_part s end.mat) 0 past in
          omega arith

-- ---- the parts of a pair
inverse-of : (p : List ℕ) → Perm p → Inverse p (inverse_of p)
inverse-of p perm = inverted-inverse p (replicate (length p) 0) (length-replicate (length p) 0) (entries-low p perm) perm

module _ (s : Set) (random public private : List ℕ) (count : ℕ) (room : Room s) (v : Parts s random public private count) where
  -- the blocks have determinants
  pub made-blocks : Blocks s.w (block_elements s random) v.A
  made-blocks = blocks-laws s.w (block_elements s random) v.A v.blocks_are

  -- the stored lists are the inverses of P1 and P2
  pub made-first : Inverse (permutation1 s random) (key_with s random v.A v.p).q1
  made-first = inverse-of (permutation1 s random) (first_perm s random (permutation1 s random) refl)

  pub made-second : Inverse (permutation2 s random v.p) (key_with s random v.A v.p).q2
  made-second = inverse-of (permutation2 s random v.p) (second_perm s random (permutation2 s random v.p) v.p refl)

  -- no inverse of a multiplier is zero
  pub made-nonzero : (i : ℕ) → i < s.n → get_or (key_with s random v.A v.p).inverses i 0 ≢ 0
  made-nonzero i h =
      let long : length (multipliers s random) ≡ s.n = multipliers-length s random v.enough in
      let d : get_or (multipliers s random) i 0 ≢ 0 = multipliers-nonzero s random v.enough i h in
      let b : Small (width ten) (multipliers s random) = small-as s.m (width ten) (multipliers s random) room.bits (multipliers-small s random) in
      let pos : 0 < get_or (multipliers s random) i 0 = lt_of_le-ne (omega arith) (λ e. d (sym e)) in
      rw (inverses-at ten (multipliers s random) i (omega arith))
      (λ e. omega (arith, inverse-pos ten-field (get_or (multipliers s random) i 0) pos (b i)))

  pub ge-small : Small s.m (ge_with s random v.A v.p)
  ge-small = reduced-small s random v.A (permutation2 s random v.p) room

  pub shaped : Shaped s (key_with s random v.A v.p)
  shaped =
      let b : length v.A ≡ 4 * s.w = made-blocks.long in
      record {
        long_q1 = length-inverse (permutation1 s random) ∙ length-first s random;
        long_q2 = length-inverse (permutation2 s random v.p) ∙ length-second s random v.p;
        long_columns = length-columns v.A s.w b;
        long_inverses = length-inverses ten (multipliers s random) ∙ multipliers-length s random v.enough;
        long_ge = length-right s (end_with s random v.A v.p).mat;
        small_q1 = perm-small (inverse_of (permutation1 s random)) (inverse-perm (permutation1 s random) _ made-first) (omega (arith, length-inverse (permutation1 s random), length-first s random, room.places));
        small_q2 = perm-small (inverse_of (permutation2 s random v.p)) (inverse-perm (permutation2 s random v.p) _ made-second) (omega (arith, length-inverse (permutation2 s random v.p), length-second s random v.p, room.places));
        small = append-small s.m (inverse_columns ten v.A) _ (small-as (width ten) s.m (inverse_columns ten v.A) (sym room.bits) (columns-small v.A))
            (append-small s.m (inverses ten (multipliers s random)) _ (small-as (width ten) s.m (inverses ten (multipliers s random)) (sym room.bits) (inverses-small (multipliers s random))) ge-small);
      }

  -- both keys read back
  pub made-public : public_ge s public ≡ ge_with s random v.A v.p
  made-public = rw v.public_is (public-back s (ge_with s random v.A v.p) ge-small (length-right s (end_with s random v.A v.p).mat))

  pub made-private : read s private ≡ key_with s random v.A v.p
  made-private = rw v.private_is (private-back s (key_with s random v.A v.p) shaped)

  pub made-well-formed : WellFormed s private
  made-well-formed =
      rw v.private_is
      (well-formed s (key_with s random v.A v.p) shaped (omega (arith, room.bits)) (inverse-perm (permutation1 s random) _ made-first) (inverse-perm (permutation2 s random v.p) _ made-second) made-nonzero)

  -- and have the set's lengths
  pub made-public-length : length public ≡ s.public
  unfolding public_key
  made-public-length =
      rw v.public_is (omega (arith, length-packed s.m (ge_with s random v.A v.p), ap (bytes_for s.m) (length-right s (end_with s random v.A v.p).mat), room.public_is))

  pub made-private-length : length private ≡ s.private
  made-private-length =
      let q : 2 * s.w + (s.n + key_elements s) ≡ 2 * s.w + s.n + key_elements s = omega arith in
      rw v.private_is (private-length s (key_with s random v.A v.p) shaped ∙ rw q (sym room.private_is))
