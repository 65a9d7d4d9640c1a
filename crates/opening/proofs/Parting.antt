-- The places I and T of a well-formed key.
use mathlib.Core.Path.{◌≡◌, refl, sym, subst, ◌∙◌}
use mathlib.Core.Logic.{◌≢◌}
use mathlib.Core.Bool.{not}
use mathlib.Core.List.{List}
use Prim.Native.Nat.{ℕ, ◌+◌, ◌-◌, ◌*◌, ◌^◌, ◌≤◌, ◌<◌}
use native.Mathlib.Omega.{arith}
use native.Mathlib.Decide.{dec_lt}
use borrow.Author.Tests.{lt-ltb, le-ltb, le-leb, lt-leb}
use lib.Dec.{ltb, leb}
use lib.ListN.{length, get_or, take}
use Rattle.gf.specs.Field.{size}
use Rattle.gf.specs.Ten.{ten}
use Rattle.gf.proofs.Elements.{el-nonzero}
use Rattle.bits.specs.Bits.{elements_at}
use Rattle.bits.proofs.Packing.{elements_at-small, length-elements_at}
use Rattle.perm.specs.Perm.{Inverse, Perm}
use Rattle.pairs.specs.Sizes as pairs
use Rattle.pairs.specs.Key as keys
use Rattle.pairs.specs.Places.{Split}
use Rattle.sets.specs.declared.Set.{Set}
use Rattle.sets.specs.Valid.{key_elements}
use Rattle.scheme.specs.Lists.{passing, inverse_of}
use Rattle.scheme.specs.Keys.{Private, WellFormed, read, lists_end}
use Rattle.scheme.specs.Opening.{placed, unmixed, places_i, places_t}
use Rattle.tie.proofs.Bridge.{field, K, sizes, key_of}
use Rattle.tie.proofs.Splitting.{spare, enough-T, length-T, split-IT}
use Rattle.opening.specs.Given.{KeyGiven}
use Rattle.opening.specs.Bounds.{Bounds}
use Rattle.opening.specs.Listing.{Listed}
use Rattle.opening.proofs.Listing.{length-passing, listed-all, listed-first}
use Rattle.opening.proofs.Permuting.{inverse-of}
use Rattle.opening.proofs.Reading.{length_first, length_second}

-- a list and its inverse as functions
inverse-fn : (n : ℕ) (p : List ℕ) → length p ≡ n → Perm p → pairs.Inverse n (λ i. get_or p i 0) (λ i. get_or (inverse_of p) i 0)
inverse-fn n p e perm =
    let v : Inverse p (inverse_of p) = inverse-of p perm in
    record {
      low = λ i h. rw e at (v.low i (rw e h));
      low_back = λ i h. let q : length (inverse_of p) ≡ n = sym v.long ∙ e in rw q at (v.low_back i (rw q h));
      there = λ i h. v.there i (rw e h);
      back = λ i h. v.back i (rw e h);
    }

pub le_not : (a b : ℕ) → leb a b ≡ not (ltb b a)
le_not a b = go (dec_lt b a)
  where
    go : Dec (b < a) → leb a b ≡ not (ltb b a)
    go (yes h) = rw (lt-ltb b a h, lt-leb a b h)
    go (no d) = let h : a ≤ b = omega arith in rw (le-ltb b a h, le-leb a b h)

-- the places of I, as a list of P2 has them
pub mixed-listed : (s : Set) (κ : Private) (second out : List ℕ) (r : ℕ) → second ≡ inverse_of κ.q2 → r ≤ length out
    → Listed (passing (λ j. not (ltb (get_or second j 0) (s.n - s.w))) 0 (s.k - 0)) out r → take r out ≡ places_i s κ
unfolding places_i unmixed placed
mixed-listed s κ second out r e h C =
    let k : s.k - 0 ≡ s.k = omega arith in
    listed-all (passing (λ j. not (ltb (get_or (inverse_of κ.q2) j 0) (s.n - s.w))) 0 s.k) out r (rw (e, k) at C) h

module _ (s : Set) (key : List ℕ) (G : KeyGiven s key) (wf : WellFormed s key) where
  abbrev κ : Private
  κ = read s key

  inverse-small : (i : ℕ) → get_or (read s key).inverses i 0 < size ten
  unfolding read
  inverse-small i =
      subst (λ (w : ℕ). get_or (elements_at s.n s.m key (8 * lists_end s + s.m * (2 * s.w))) i 0 < 2 ^ w) G.element
      (elements_at-small s.n s.m key (8 * lists_end s + s.m * (2 * s.w)) i)

  pub ge-small : (i : ℕ) → get_or κ.ge i 0 < size ten
  unfolding read
  ge-small i =
      subst (λ (w : ℕ). get_or (elements_at (key_elements s) s.m key (8 * lists_end s + s.m * (2 * s.w + s.n))) i 0 < 2 ^ w) G.element
      (elements_at-small (key_elements s) s.m key (8 * lists_end s + s.m * (2 * s.w + s.n)) i)

  pub well : keys.WellFormed (K s) (sizes G.valid) (key_of s (read s key))
  well =
      record {
        first = inverse-fn s.n (read s key).q1 (length_first s key G.valid G.long) wf.first;
        second = inverse-fn (s.n + s.w) (read s key).q2 (length_second s key G.valid G.long) wf.second;
        nonzero = λ i h. el-nonzero ten (field s) (get_or (read s key).inverses i 0) (pos (wf.nonzero i h)) (inverse-small i);
      }
    where
      pos : {x : ℕ} → x ≢ 0 → 0 < x
      pos {x} d = omega arith

  pub parts : Split s.k (s.n + s.w) (keys.Unmixed (K s) (sizes G.valid) (key_of s κ)) (length (places_i s κ)) (λ i. get_or (places_i s κ) i 0) (λ b. get_or (places_t s κ) b 0)
  parts = split-IT s G.valid κ well

  pub few-mixed : length (places_i s κ) ≤ s.k
  unfolding places_i
  few-mixed = length-passing (λ j. not (unmixed s κ j)) 0 s.k

  pub as-many : length (places_t s κ) ≡ length (places_i s κ)
  as-many = length-T s G.valid κ well

  -- the places of T
  pub plain-listed : (second out : List ℕ) (r : ℕ) → second ≡ inverse_of κ.q2 → length out ≡ length (places_i s κ)
      → Listed (passing (λ j. ltb (get_or second j 0) (s.n - s.w)) s.k (s.n + s.w - s.k)) out r → out ≡ places_t s κ
  unfolding places_t unmixed placed
  plain-listed second out r e h C =
      let D : Listed (spare s G.valid κ) out r = rw e at C in
      listed-first (spare s G.valid κ) out r D (omega (arith, D.count, enough-T s G.valid κ well)) ∙ rw h refl

  bounds : Bounds s κ κ.ge (inverse_of κ.q1) (inverse_of κ.q2) (places_i s κ) (places_t s κ)
  unfolding read placed
  bounds =
      record {
        ge_long = length-elements_at (key_elements s) s.m key _;
        first_long = sym v₁.long ∙ n₁;
        second_long = sym v₂.long ∙ n₂;
        as_many = as-many;
        few = few-mixed;
        q1_low = λ j h. rw n₁ at (v₁.low j (rw n₁ h));
        q2_low = λ i h. rw n₂ at (v₂.low i (rw n₂ h));
        first_low = λ j h. let e : length (inverse_of κ.q1) ≡ s.n = sym v₁.long ∙ n₁ in rw e at (v₁.low_back j (rw e h));
        mixed_low = λ a h. parts.solved.under a h;
        mixed_apart = λ a b h g e. omega (arith, parts.solved.rising a b h g);
        plain_high = λ b h. parts.high b (omega (arith, as-many));
        plain_low = λ b h. parts.low b (omega (arith, as-many));
        plain_read = λ b h. parts.read b (omega (arith, as-many));
      }
    where
      n₁ : length (read s key).q1 ≡ s.n
      n₁ = length_first s key G.valid G.long

      n₂ : length (read s key).q2 ≡ s.n + s.w
      n₂ = length_second s key G.valid G.long

      v₁ : Inverse (read s key).q1 (inverse_of (read s key).q1)
      v₁ = inverse-of (read s key).q1 wf.first

      v₂ : Inverse (read s key).q2 (inverse_of (read s key).q2)
      v₂ = inverse-of (read s key).q2 wf.second

  pub bounds-as : (ge first second mixed plain : List ℕ) → ge ≡ κ.ge → first ≡ inverse_of κ.q1 → second ≡ inverse_of κ.q2 → mixed ≡ places_i s κ → plain ≡ places_t s κ
      → Bounds s κ ge first second mixed plain
  bounds-as ge first second mixed plain eg e₁ e₂ em ep = rw (eg, e₁, e₂, em, ep) bounds
