-- Every pair of setup is good: what its key keeps undoes the chain, and the reduced matrix is [I, GE].
use mathlib.Core.Path.{◌≡◌, sym, ap, ap₂, ◌∙◌, fun_ext, subst}
use mathlib.Core.Logic.{◌≢◌}
use mathlib.Core.List.{List}
use Prim.Native.Nat.{ℕ, ◌+◌, ◌-◌, ◌^◌, ◌≤◌, ◌<◌}
use native.Mathlib.Omega.{arith}
use native.Mathlib.Decide.{dec_lt}
use lib.Pow.{pow_pos}
use lib.ListN.{length, get_or, replicate, length-replicate, get_or-eq_default}
use Rattle.theory.specs.Word.{pow}
use Rattle.theory.specs.Code.{Points}
use Rattle.theory.specs.Matrix.{Steps, UnitBelow}
use Rattle.theory.proofs.Steps.{steps-agree}
use Rattle.gf.specs.Field.{width, size, mul, inverse, alpha}
use Rattle.gf.proofs.Xor.{add-lt}
use Rattle.gf.proofs.Ring.{mul-lt, alpha-lt}
use Rattle.gf.proofs.Cyclic.{alpha-pos, inverse-pos}
use Rattle.gf.proofs.Elements.{El, plus, times, inverted, el-xor, el-mul, el-inverse, el-nonzero, alpha-points}
use Rattle.bits.specs.Bits.{Small}
use Rattle.perm.specs.Perm.{Perm, Inverse}
use Rattle.perm.proofs.Permutations.{entries-low, inverse-sym, inverse-perm, inverse-unique}
use Rattle.perm.proofs.Shuffling.{length-shuffled, shuffled-perm}
use Rattle.perm.proofs.Inverting.{length-inverted, inverted-inverse}
use Rattle.sets.specs.declared.Set.{Set}
use Rattle.sets.specs.Valid.{Valid}
use Rattle.linear.specs.Matrix as linear
use Rattle.linear.proofs.View.{view}
use Rattle.linear.proofs.Laws.{end-matrix, end-within, end-steps, end-done}
use Rattle.code.proofs.Bridge.{X}
use Rattle.scheme.specs.Lists.{inverse_of}
use Rattle.scheme.specs.Field.{field_of}
use Rattle.scheme.specs.Matrices.{block_entry}
use Rattle.scheme.specs.Keys.{Private, public_key, private_key, public_ge, read}
use Rattle.scheme.specs.Setup.{usable, multipliers, block_elements, det, permutation1, permutation2, random_matrix, chain}
use Rattle.scheme.specs.Opening.{places_i, places_t}
use Rattle.pairs.specs.Chain as pairs
use Rattle.pairs.specs.Good as good
use Rattle.pairs.proofs.Setup.{setup-good}
use Rattle.demands.specs.Demands.{GoodPair, SetupGood}
use Rattle.tie.proofs.Bridge.{field, K, E, word, sizes, key_of}
use Rattle.demands.proofs.Sound.{Sound, sound-well, perm-inverse}
use Rattle.tie.proofs.Splitting.{split-IT}
use Rattle.tie.proofs.Regular.{singular-not}
use Rattle.demands.proofs.Reading.{within, outside, points}
use Rattle.demands.proofs.Pairs.{IsGood, rows-good}
use Rattle.demands.proofs.Drawing.{multipliers-small, multipliers-long, multipliers-at, length-inverses, inverses-at, inverses-small, Blocked, blocks-blocked, block_at, length-columns, columns-small}
use Rattle.demands.proofs.Keys.{public-long, public-byte, public-back, Writable, private-long, private-byte, private-tail, private-back}
use Rattle.demands.proofs.Chain.{alpha_of, blocks_of, chain-el, alpha-el}
use Rattle.demands.proofs.Made.{matrix_of, end_of, key_made, made_of}
use Rattle.demands.proofs.Matrices.{listed_at, chain-matrix, right-long, right-at, right-small}

-- ---- permutations

pub inverse-is : (P : List ℕ) → Perm P → Inverse P (inverse_of P)
inverse-is P p = inverted-inverse P (replicate (length P) 0) (length-replicate (length P) 0) (entries-low P p) p

-- the inverse of the inverse
pub inverse-twice : (P : List ℕ) → Perm P → inverse_of (inverse_of P) ≡ P
inverse-twice P p =
    inverse-unique (inverse_of P) (inverse_of (inverse_of P)) P (inverse-is (inverse_of P) (inverse-perm P (inverse_of P) (inverse-is P p))) (inverse-sym P (inverse_of P) (inverse-is P p))

pub length-inverse_of : (P : List ℕ) → length (inverse_of P) ≡ length P
length-inverse_of P = length-inverted P (replicate (length P) 0) ∙ length-replicate (length P) 0

-- the entries are places, so numbers of 16 bits
perm-small : (P : List ℕ) → Perm P → length P ≤ 65536 → Small 16 P
perm-small P p h i = go (dec_lt i (length P))
  where
    go : Dec (i < length P) → get_or P i 0 < 2 ^ 16
    go (yes l) = let q : get_or P i 0 < length P = entries-low P p i l in omega arith
    go (no n) = let past : length P ≤ i = omega arith in rw (get_or-eq_default P 0 past) (pow_pos 16)

positive : (x : ℕ) → x ≢ 0 → 0 < x
positive x d = go (dec_lt 0 x)
  where
    go : Dec (0 < x) → 0 < x
    go (yes h) = h
    go (no h) = absurd (d (omega arith))

module _ (s : Set) (ok : Valid s) (e : width (field_of s) ≡ s.m) (random A : List ℕ) (p : ℕ) (many : s.n ≤ length (usable s random))
    (B : Blocked (field_of s) s.w A) (done : s.k ≤ (end_of s random A p).cols) where
  abbrev P1 : List ℕ
  P1 = permutation1 s random

  abbrev P2 : List ℕ
  P2 = permutation2 s random p

  abbrev v : List ℕ
  v = multipliers s random

  abbrev κ : Private
  κ = key_made s random A p

  -- ---- the parts of the key

  perm1 : Perm P1
  unfolding permutation1
  perm1 = shuffled-perm _ s.n (s.n - 1) (omega arith)

  long1 : length P1 ≡ s.n
  unfolding permutation1
  long1 = length-shuffled _ s.n (s.n - 1)

  perm2 : Perm P2
  unfolding permutation2
  perm2 = shuffled-perm _ (s.n + s.w) (s.n + s.w - 1) (omega arith)

  long2 : length P2 ≡ s.n + s.w
  unfolding permutation2
  long2 = length-shuffled _ (s.n + s.w) (s.n + s.w - 1)

  wide : s.k ≤ s.n + s.w
  wide = omega (arith, ok.room)

  same : s.k ≤ s.k
  same = omega arith

  M : linear.Matrix (field_of s) s.k (s.n + s.w) (matrix_of s random A p)
  M = chain-matrix s e random A P2

  end : linear.Matrix (field_of s) s.k (s.n + s.w) (end_of s random A p).mat
  end = end-matrix (field_of s) (field s) s.k (s.n + s.w) s.k same wide (matrix_of s random A p) M

  inverse1 : Perm (inverse_of P1)
  inverse1 = inverse-perm P1 (inverse_of P1) (inverse-is P1 perm1)

  inverse2 : Perm (inverse_of P2)
  inverse2 = inverse-perm P2 (inverse_of P2) (inverse-is P2 perm2)

  v-small : (i : ℕ) → get_or v i 0 < size (field_of s)
  v-small i = within s e _ (multipliers-small s random i)

  v-some : (i : ℕ) → i < s.n → 0 < get_or v i 0
  v-some i l = positive _ (multipliers-at s random many i l)

  ge-small : Small s.m κ.ge
  ge-small = right-small s ok (end_of s random A p).mat e end

  writable : Writable s ok κ
  writable =
      record {
        long1 = length-inverse_of P1 ∙ long1;
        long2 = length-inverse_of P2 ∙ long2;
        long3 = length-columns B;
        long4 = length-inverses (field_of s) v ∙ multipliers-long s random many;
        long5 = right-long s ok (end_of s random A p).mat;
        small1 = perm-small (inverse_of P1) inverse1 (omega (arith, length-inverse_of P1, long1, ok.places));
        small2 = perm-small (inverse_of P2) inverse2 (omega (arith, length-inverse_of P2, long2, ok.places));
        small3 = λ i. outside s e _ (columns-small B i);
        small4 = λ i. outside s e _ (inverses-small (field_of s) v i);
        small5 = ge-small;
      }

  sound : Sound s κ
  sound =
      record {
        long1 = length-inverse_of P1 ∙ long1;
        long2 = length-inverse_of P2 ∙ long2;
        first = inverse1;
        second = inverse2;
        nonzero = λ i l z. let q : 0 < inverse (field_of s) (get_or v i 0) = inverse-pos (field s) (get_or v i 0) (v-some i l) (v-small i) in
            omega (arith, sym (inverses-at (field_of s) v i (rw (multipliers-long s random many) l)) ∙ z);
        small = inverses-small (field_of s) v;
        elements = λ i. within s e _ (ge-small i);
      }

  -- ---- what the key keeps undoes the chain

  det-el : (i : ℕ) → E s (det (field_of s) (block_entry A i 0 0) (block_entry A i 0 1) (block_entry A i 1 0) (block_entry A i 1 1)) ≡ pairs.det (K s) (blocks_of s A) i
  unfolding pairs.det
  det-el i = el-xor _ (field s) _ _ ∙ ap₂ (plus (field_of s)) (el-mul _ (field s) _ _) (el-mul _ (field s) _ _)

  -- an entry of the block over its determinant
  over-el : (x i y : ℕ) → y ≡ mul (field_of s) x (inverse (field_of s) (det (field_of s) (block_entry A i 0 0) (block_entry A i 0 1) (block_entry A i 1 0) (block_entry A i 1 1)))
      → E s y ≡ times (field_of s) (E s x) (inverted (field_of s) (pairs.det (K s) (blocks_of s A) i))
  over-el x i y q =
      ap (E s) q ∙ el-mul _ (field s) _ _ ∙ ap (times (field_of s) (E s x)) (el-inverse _ (field s) _ ∙ ap (inverted (field_of s)) (det-el i))

  stored : pairs.Stored (K s) (sizes ok) (word s v) (blocks_of s A) (key_of s κ)
  stored =
      record {
        first = perm-inverse (inverse_of P1) s.n (length-inverse_of P1 ∙ long1) inverse1;
        second = perm-inverse (inverse_of P2) (s.n + s.w) (length-inverse_of P2 ∙ long2) inverse2;
        usable = λ i l. el-nonzero (field_of s) (field s) _ (v-some i l) (v-small i);
        block = λ i l z. el-nonzero (field_of s) (field s) _ (positive _ (block_at B i l).regular) (add-lt (width (field_of s)) _ _ (mul-lt (field_of s) _ _) (mul-lt (field_of s) _ _)) (det-el i ∙ z);
        upper = λ i l. over-el _ i _ (block_at B i l).upper;
        lower = λ i l. over-el _ i _ (block_at B i l).lower;
        inverted = λ i l. ap (E s) (inverses-at (field_of s) v i (rw (multipliers-long s random many) l)) ∙ el-inverse _ (field s) _;
      }

  -- ---- the reduced matrix is [I, GE]

  -- the chain, with the permutations as the key gives them back
  abbrev before : ℕ → ℕ → El (field_of s)
  before =
      pairs.chain (K s) (sizes ok) (alpha_of s) (word s v) (key_of s κ).p1 (λ i j. E s (random_matrix s random i j)) (blocks_of s A) (key_of s κ).p2

  before-el : (i j : ℕ) → E s (chain s random A P2 i j) ≡ before i j
  before-el i j =
      ap (λ (m : ℕ → ℕ → El (field_of s)). m i j) (chain-el s ok random A P2)
      ∙ ap₂ (λ (a b : List ℕ). pairs.chain (K s) (sizes ok) (alpha_of s) (word s v) (λ j. get_or a j 0) (λ i j. E s (random_matrix s random i j)) (blocks_of s A) (λ j. get_or b j 0) i j) (sym (inverse-twice P1 perm1)) (sym (inverse-twice P2 perm2))

  after : ℕ → ℕ → El (field_of s)
  after = view (field_of s) (s.n + s.w) (end_of s random A p).mat

  steps : Steps (K s) s.k (s.n + s.w) before after
  unfolding after
  steps =
      steps-agree (K s) s.k (s.n + s.w)
      (λ i j l h. sym (ap (E s) (listed_at s.k (s.n + s.w) (chain s random A P2) i j l h) ∙ before-el i j))
      (end-steps (field_of s) (field s) s.k (s.n + s.w) s.k same wide (matrix_of s random A p) M)

  left : UnitBelow (K s) s.k s.k after
  unfolding after
  left =
      end-done (field_of s) (field s) s.k (s.n + s.w) s.k same wide (matrix_of s random A p) M
      (omega (arith, done, end-within (field_of s) (field s) s.k (s.n + s.w) s.k same wide (matrix_of s random A p) M))

  right : (i j : ℕ) → i < s.k → j < s.n + s.w - s.k → (key_of s κ).ge i j ≡ after i (s.k + j)
  unfolding after
  right i j hi hj = ap (E s) (right-at s ok (end_of s random A p).mat i j hi hj)

  abbrev Good : (ℕ → El (field_of s)) → Type 0
  Good points =
      good.Good (K s) (sizes ok) points (key_of s κ) (length (places_i s κ)) (λ a. get_or (places_i s κ) a 0) (λ b. get_or (places_t s κ) b 0)

  is-good : IsGood s ok κ sound
  is-good =
      let α≢ = el-nonzero (field_of s) (field s) (alpha (field_of s) 1) (alpha-pos (field s) 1) (alpha-lt (field_of s) 1) in
      let same : X (field_of s) (field s) ≡ pow (K s) (alpha_of s) = fun_ext (alpha-el s) in
      let P : Points (K s) (pow (K s) (alpha_of s)) s.n = rw same at (alpha-points (field_of s) (field s) s.n (points s e ok)) in
      let R : ℕ → ℕ → El (field_of s) = λ i j. E s (random_matrix s random i j) in
      let W = sound-well ok κ sound in
      subst Good (sym same)
      (setup-good (K s) (sizes ok) (alpha_of s) α≢ P (word s v) (blocks_of s A) R (key_of s κ) stored (length (places_i s κ)) _ _ (split-IT s ok κ W) after steps left right)

  -- ---- the pair

  pub pair-good : GoodPair s (public_key s κ.ge) (private_key s κ)
  pair-good =
      let back : read s (private_key s κ) ≡ κ = private-back s ok κ writable in
      let front : public_ge s (public_key s κ.ge) ≡ κ.ge = public-back s ok κ.ge writable.long5 writable.small5 in
      record {
        public_long = public-long s ok κ.ge writable.long5 writable.small5;
        private_long = private-long s ok κ writable;
        public_byte = public-byte s ok κ.ge writable.long5 writable.small5;
        private_byte = private-byte s ok κ writable;
        well_formed = record {
          first = rw back inverse1;
          second = rw back inverse2;
          nonzero = rw back sound.nonzero;
          spare = private-tail s ok κ writable;
        };
        same = front ∙ sym (ap (λ (k : Private). k.ge) back);
        rows = rw (back, front) (rows-good s ok κ sound is-good);
        regular = rw back (singular-not s κ is-good.regular);
      }

  pub pair_of : (public private : List ℕ) → public ≡ public_key s κ.ge → private ≡ private_key s κ → GoodPair s public private
  pair_of public private x y = rw (x, y) pair-good

-- THEOREM (setup, good). Every pair of setup is good.
pub setup-pairs : (s : Set) → Valid s → width (field_of s) ≡ s.m → SetupGood s
setup-pairs s ok e public private O =
    let D = made_of s O.random public private O.count O.is in
    pair_of s ok e O.random D.A D.p D.many (blocks-blocked (field_of s) s.w (block_elements s O.random) D.A D.blocks_are) D.done public private D.public_is D.private_is
