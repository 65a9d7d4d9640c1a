-- Laws of permutations: entries below the length and distinct, one inverse, and the inverse of the inverse.
use mathlib.Core.Path.{◌≡◌, sym, ◌∙◌, ap}
use mathlib.Core.List.{List}
use Prim.Native.Nat.{ℕ, ◌<◌}
use lib.ListN.{length, get_or}
use lib.Seq.{ext_get_or}
use Rattle.perm.specs.Perm.{Places, Inverse, Perm, Undoes}
use Rattle.perm.proofs.Exchange.{pigeonhole}

-- the inverse of the inverse
pub inverse-sym : (p q : List ℕ) → Inverse p q → Inverse q p
inverse-sym p q v =
    record {
      long = sym v.long;
      low = v.low_back;
      low_back = v.low;
      there = λ i h. v.back i (rw v.long h);
      back = λ i h. v.there i (rw v.long h);
    }

pub inverse-perm : (p q : List ℕ) → Inverse p q → Perm q
inverse-perm p q v = (p, inverse-sym p q v)

-- entries are distinct
pub entries-distinct : (p : List ℕ) → Perm p → (i j : ℕ) → i < length p → j < length p → get_or p i 0 ≡ get_or p j 0 → i ≡ j
entries-distinct p (q, v) i j hi hj e = sym (v.there i hi) ∙ ap (λ (x : ℕ). get_or q x 0) e ∙ v.there j hj

-- and below the length
pub entries-low : (p : List ℕ) → Perm p → Places p
entries-low p (q, v) = v.low

-- every place below the length is an entry
pub entries-all : (p : List ℕ) → Perm p → (y : ℕ) → y < length p → (i : ℕ) × (i < length p) × (get_or p i 0 ≡ y)
entries-all p (q, v) y h = (get_or q y 0, rw v.long (v.low_back y (rw v.long at h)), v.back y h)

-- there is one inverse
pub inverse-unique : (p q r : List ℕ) → Inverse p q → Inverse p r → q ≡ r
inverse-unique p q r v w =
    ext_get_or 0 q r (sym v.long ∙ w.long)
    λ i h'. let h : i < length p = rw v.long h' in
    let b : get_or q i 0 < length p = rw v.long (v.low_back i h') in
    sym (w.there (get_or q i 0) b) ∙ ap (λ (x : ℕ). get_or r x 0) (v.back i h)

-- places that are undone are a permutation, by the pigeonhole argument
pub undoes-inverse : (p q : List ℕ) → length q ≡ length p → Places p → Undoes p q → Inverse p q
undoes-inverse p q l low u =
    record {
      long = sym l;
      low = low;
      low_back = λ y h. rw l (below y (rw l at h));
      there = u;
      back = back;
    }
  where
    hit : (y : ℕ) → y < length p → (i : ℕ) × (i < length p) × (get_or p i 0 ≡ y)
    hit = pigeonhole (length p) (λ i. get_or p i 0) low (λ i j hi hj e. sym (u i hi) ∙ ap (λ (x : ℕ). get_or q x 0) e ∙ u j hj)

    below : (y : ℕ) → y < length p → get_or q y 0 < length p
    below y h = go (hit y h)
      where
        go : (i : ℕ) × (i < length p) × (get_or p i 0 ≡ y) → get_or q y 0 < length p
        go (i, b, e) = rw (← e, u i b) b

    back : (y : ℕ) → y < length p → get_or p (get_or q y 0) 0 ≡ y
    back y h = go (hit y h)
      where
        go : (i : ℕ) × (i < length p) × (get_or p i 0 ≡ y) → get_or p (get_or q y 0) 0 ≡ y
        go (i, b, e) = rw (← e, u i b)
