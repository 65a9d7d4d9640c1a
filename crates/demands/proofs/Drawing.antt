-- What setup draws: multipliers that are not zero, blocks with determinants that are not zero, and what the key keeps of them.
use mathlib.Core.Path.{◌≡◌, refl, ap}
use mathlib.Core.Logic.{◌≢◌}
use mathlib.Core.Bool.{Bool, true, false}
use mathlib.Core.List.{List, [], ◌∷◌}
use Prim.Native.Nat.{ℕ, zero, suc, ◌+◌, ◌*◌, ◌^◌, ◌≤◌, ◌<◌}
use native.Mathlib.Omega.{arith}
use native.Mathlib.Decide.{ℕ_discrete}
use lib.Dec.{eqb}
use lib.Pow.{pow_pos}
use lib.Seq.{get_or-take, length-take-le}
use lib.ListN.{length, get_or, take}
use borrow.Author.Tests.{eq-eqb, ne_eqb}
use Rattle.lists.specs.Loops.{pick}
use Rattle.gf.specs.Field.{Modulus, width, size, mul, inverse}
use Rattle.gf.proofs.Ring.{mul-lt, inverse-lt}
use Rattle.bits.specs.Bits.{Small}
use Rattle.bits.proofs.Packing.{elements-small}
use Rattle.sets.specs.declared.Set.{Set}
use Rattle.scheme.specs.Lists.{non_zero}
use Rattle.scheme.specs.Setup.{drawn, usable, multipliers, det, Found, found, none, with_block, blocks, inverse_columns, inverses}
use Rattle.demands.proofs.Triples.{small-take}

-- ---- the list without its zeros
pub non_zero-small : (w : ℕ) (l : List ℕ) → Small w l → Small w (non_zero l)
unfolding non_zero
non_zero-small w [] h i = pow_pos w
non_zero-small w (x ∷ l) h i = go (eqb x 0) i (non_zero-small w l (λ i. h (suc i)))
  where
    go : (b : Bool) (i : ℕ) → Small w (non_zero l) → get_or (pick b (non_zero l) (x ∷ non_zero l)) i 0 < 2 ^ w
    go true i r = r i
    go false zero r = h 0
    go false (suc i) r = r i

pub non_zero-at : (l : List ℕ) (i : ℕ) → i < length (non_zero l) → get_or (non_zero l) i 0 ≢ 0
unfolding non_zero
non_zero-at [] i h = absurd (omega arith)
non_zero-at (x ∷ l) i h = go (ℕ_discrete x 0) i h (non_zero-at l)
  where
    go : Dec (x ≡ 0) → (i : ℕ) → i < length (pick (eqb x 0) (non_zero l) (x ∷ non_zero l)) → ((i : ℕ) → i < length (non_zero l) → get_or (non_zero l) i 0 ≢ 0)
        → get_or (pick (eqb x 0) (non_zero l) (x ∷ non_zero l)) i 0 ≢ 0
    go (yes e) i h ih = rw (eq-eqb x 0 e) (ih i (rw (eq-eqb x 0 e) at h))
    go (no d) zero h ih = rw (ne_eqb x 0 d) d
    go (no d) (suc i) h ih = rw (ne_eqb x 0 d) (ih i (let q : suc i < length (x ∷ non_zero l) = rw (ne_eqb x 0 d) at h in omega arith))

-- ---- the multipliers
module _ (s : Set) (random : List ℕ) where
  pub drawn-small : Small s.m (drawn s random)
  unfolding drawn
  drawn-small = elements-small s.m _

  pub multipliers-small : Small s.m (multipliers s random)
  unfolding multipliers usable
  multipliers-small =
      small-take s.m s.n _ (non_zero-small s.m _ (small-take s.m (s.n + 5) (drawn s random) drawn-small))

  module _ (many : s.n ≤ length (usable s random)) where
    pub multipliers-long : length (multipliers s random) ≡ s.n
    unfolding multipliers
    multipliers-long = length-take-le s.n (usable s random) many

    pub multipliers-at : (i : ℕ) → i < s.n → get_or (multipliers s random) i 0 ≢ 0
    unfolding multipliers usable
    multipliers-at i l = rw (get_or-take s.n (non_zero (take (s.n + 5) (drawn s random))) i 0 l) (non_zero-at (take (s.n + 5) (drawn s random)) i (omega arith))

pub length-inverses : (F : Modulus) (l : List ℕ) → length (inverses F l) ≡ length l
unfolding inverses
length-inverses F [] = refl
length-inverses F (x ∷ l) = ap suc (length-inverses F l)

pub inverses-at : (F : Modulus) (l : List ℕ) (i : ℕ) → i < length l → get_or (inverses F l) i 0 ≡ inverse F (get_or l i 0)
unfolding inverses
inverses-at F [] i h = absurd (omega arith)
inverses-at F (x ∷ l) zero h = refl
inverses-at F (x ∷ l) (suc i) h = inverses-at F l i (omega arith)

pub inverses-small : (F : Modulus) (l : List ℕ) (i : ℕ) → get_or (inverses F l) i 0 < size F
unfolding inverses
inverses-small F [] i = pow_pos (width F)
inverses-small F (x ∷ l) zero = inverse-lt F x
inverses-small F (x ∷ l) (suc i) = inverses-small F l i

-- ---- the blocks: w of them, none singular, of elements
pub data Blocked (F : Modulus) : ℕ → List ℕ → Type 0 where
  end : Blocked F 0 []
  block : {w : ℕ} {l : List ℕ} (a b c d : ℕ) → det F a b c d ≢ 0 → Blocked F w l → Blocked F (suc w) (a ∷ b ∷ c ∷ d ∷ l)

with-block : (F : Modulus) (w a b c d : ℕ) (f : Found) (A : List ℕ) → det F a b c d ≢ 0 → ((l : List ℕ) → f ≡ found l → Blocked F w l) → with_block a b c d f ≡ found A
    → Blocked F (suc w) A
with-block F w a b c d (found l) A n ih e = let q : a ∷ b ∷ c ∷ d ∷ l ≡ A = cc in rw (← q) (block a b c d n (ih l refl))
with-block F w a b c d none A n ih e = absurd (let z : ◌≡◌ {A = ℕ} 0 1 = cc in omega arith)

pub blocks-blocked : (F : Modulus) (w : ℕ) (l A : List ℕ) → blocks F w l ≡ found A → Blocked F w A
unfolding blocks
blocks-blocked F zero l A e = let q : [] ≡ A = cc in rw (← q) end
blocks-blocked F (suc w) (a ∷ b ∷ c ∷ d ∷ l) A e =
    go (ℕ_discrete (det F a b c d) 0) (blocks-blocked F (suc w) (b ∷ c ∷ d ∷ l) A) (blocks-blocked F w l) e
  where
    go : Dec (det F a b c d ≡ 0) → (blocks F (suc w) (b ∷ c ∷ d ∷ l) ≡ found A → Blocked F (suc w) A) → ((B : List ℕ) → blocks F w l ≡ found B → Blocked F w B)
        → pick (eqb (det F a b c d) 0) (blocks F (suc w) (b ∷ c ∷ d ∷ l)) (with_block a b c d (blocks F w l)) ≡ found A → Blocked F (suc w) A
    go (yes z) skip take e = skip (rw (eq-eqb (det F a b c d) 0 z) at e)
    go (no n) skip take e = with-block F w a b c d (blocks F w l) A n take (rw (ne_eqb (det F a b c d) 0 n) at e)
blocks-blocked F (suc w) (a ∷ b ∷ c ∷ []) A e = absurd (let z : ◌≡◌ {A = ℕ} 0 1 = cc in omega arith)
blocks-blocked F (suc w) (a ∷ b ∷ []) A e = absurd (let z : ◌≡◌ {A = ℕ} 0 1 = cc in omega arith)
blocks-blocked F (suc w) (a ∷ []) A e = absurd (let z : ◌≡◌ {A = ℕ} 0 1 = cc in omega arith)
blocks-blocked F (suc w) [] A e = absurd (let z : ◌≡◌ {A = ℕ} 0 1 = cc in omega arith)

-- what is kept of block i
pub record BlockAt (F : Modulus) (A : List ℕ) (i : ℕ) : Type 0 where
  pub regular : det F (get_or A (4 * i + 2 * 0 + 0) 0) (get_or A (4 * i + 2 * 0 + 1) 0) (get_or A (4 * i + 2 * 1 + 0) 0) (get_or A (4 * i + 2 * 1 + 1) 0) ≢ 0
  pub upper : get_or (inverse_columns F A) (2 * i) 0
      ≡ mul F (get_or A (4 * i + 2 * 1 + 1) 0) (inverse F (det F (get_or A (4 * i + 2 * 0 + 0) 0) (get_or A (4 * i + 2 * 0 + 1) 0) (get_or A (4 * i + 2 * 1 + 0) 0) (get_or A (4 * i + 2 * 1 + 1) 0)))
  pub lower : get_or (inverse_columns F A) (2 * i + 1) 0
      ≡ mul F (get_or A (4 * i + 2 * 1 + 0) 0) (inverse F (det F (get_or A (4 * i + 2 * 0 + 0) 0) (get_or A (4 * i + 2 * 0 + 1) 0) (get_or A (4 * i + 2 * 1 + 0) 0) (get_or A (4 * i + 2 * 1 + 1) 0)))

pub block_at : {F : Modulus} {w : ℕ} {A : List ℕ} → Blocked F w A → (i : ℕ) → i < w → BlockAt F A i
unfolding inverse_columns
block_at end i h = absurd (omega arith)
block_at (block a b c d n B) zero h = record { regular = n; upper = refl; lower = refl }
block_at (block a b c d n B) (suc i) h =
    let t0 : 2 * suc i ≡ suc (suc (2 * i)) = omega arith in
    let t1 : 2 * suc i + 1 ≡ suc (suc (2 * i + 1)) = omega arith in
    let f0 : 4 * suc i + 2 * 0 + 0 ≡ suc (suc (suc (suc (4 * i + 2 * 0 + 0)))) = omega arith in
    let f1 : 4 * suc i + 2 * 0 + 1 ≡ suc (suc (suc (suc (4 * i + 2 * 0 + 1)))) = omega arith in
    let f2 : 4 * suc i + 2 * 1 + 0 ≡ suc (suc (suc (suc (4 * i + 2 * 1 + 0)))) = omega arith in
    let f3 : 4 * suc i + 2 * 1 + 1 ≡ suc (suc (suc (suc (4 * i + 2 * 1 + 1)))) = omega arith in
    let v = block_at B i (omega arith) in
    record {
      regular = rw (f0, f1, f2, f3) v.regular;
      upper = rw (f0, f1, f2, f3, t0) v.upper;
      lower = rw (f0, f1, f2, f3, t1) v.lower;
    }

pub length-columns : {F : Modulus} {w : ℕ} {A : List ℕ} → Blocked F w A → length (inverse_columns F A) ≡ 2 * w
unfolding inverse_columns
length-columns end = refl
length-columns (block a b c d n B) = omega (arith, length-columns B)

pub columns-small : {F : Modulus} {w : ℕ} {A : List ℕ} → Blocked F w A → (i : ℕ) → get_or (inverse_columns F A) i 0 < size F
unfolding inverse_columns
columns-small {F} end i = pow_pos (width F)
columns-small {F} (block a b c d n B) zero = mul-lt F _ _
columns-small {F} (block a b c d n B) (suc zero) = mul-lt F _ _
columns-small {F} (block a b c d n B) (suc (suc i)) = columns-small B i
