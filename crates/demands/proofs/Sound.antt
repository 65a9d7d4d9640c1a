-- What is asked of a key that is read: it is well formed in the sense of `pairs`.
use mathlib.Core.Path.{◌≡◌, sym, ◌∙◌}
use mathlib.Core.Logic.{◌≢◌}
use mathlib.Core.List.{List}
use Prim.Native.Nat.{ℕ, ◌+◌, ◌<◌}
use native.Mathlib.Omega.{arith}
use native.Mathlib.Decide.{dec_lt}
use lib.ListN.{length, get_or, replicate, length-replicate}
use Rattle.gf.specs.Field.{size}
use Rattle.gf.proofs.Elements.{el-nonzero}
use Rattle.perm.specs.Perm.{Perm, Inverse}
use Rattle.perm.proofs.Permutations.{entries-low}
use Rattle.perm.proofs.Inverting.{inverted-inverse}
use Rattle.sets.specs.declared.Set.{Set}
use Rattle.sets.specs.Valid.{Valid}
use Rattle.scheme.specs.Lists.{inverse_of}
use Rattle.scheme.specs.Field.{field_of}
use Rattle.scheme.specs.Keys.{Private}
use Rattle.pairs.specs.Sizes as pairs
use Rattle.pairs.specs.Key.{WellFormed}
use Rattle.tie.proofs.Bridge.{field, K, sizes, key_of}

pub record Sound (s : Set) (κ : Private) : Type 0 where
  pub long1 : length κ.q1 ≡ s.n
  pub long2 : length κ.q2 ≡ s.n + s.w
  pub first : Perm κ.q1
  pub second : Perm κ.q2
  pub nonzero : (i : ℕ) → i < s.n → get_or κ.inverses i 0 ≢ 0
  pub small : (i : ℕ) → get_or κ.inverses i 0 < size (field_of s)
  pub elements : (i : ℕ) → get_or κ.ge i 0 < size (field_of s)

-- a permutation and its inverse, place by place
pub perm-inverse : (p : List ℕ) (r : ℕ) → length p ≡ r → Perm p → pairs.Inverse r (λ i. get_or p i 0) (λ i. get_or (inverse_of p) i 0)
perm-inverse p r l P =
    let v : Inverse p (inverse_of p) = inverted-inverse p (replicate (length p) 0) (length-replicate (length p) 0) (entries-low p P) P in
    let e : length (inverse_of p) ≡ r = sym v.long ∙ l in
    record {
      low = λ i h. rw l at (v.low i (rw l h));
      low_back = λ i h. rw e at (v.low_back i (rw e h));
      there = λ i h. v.there i (rw l h);
      back = λ i h. v.back i (rw l h);
    }

pub sound-well : {s : Set} (ok : Valid s) (κ : Private) → Sound s κ → WellFormed (K s) (sizes ok) (key_of s κ)
sound-well {s} ok κ S =
    record {
      first = perm-inverse κ.q1 s.n S.long1 S.first;
      second = perm-inverse κ.q2 (s.n + s.w) S.long2 S.second;
      nonzero = λ i h. el-nonzero (field_of s) (field s) _ (positive _ (S.nonzero i h)) (S.small i);
    }
  where
    positive : (x : ℕ) → x ≢ 0 → 0 < x
    positive x d = go (dec_lt 0 x)
      where
        go : Dec (0 < x) → 0 < x
        go (yes h) = h
        go (no h) = absurd (d (omega arith))
