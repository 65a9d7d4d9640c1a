-- One test, computed by antt, shows of a modulus that it is `Cyclic`: the powers of α are all the numbers from 1 up to 2 ^ m - 1, each once.
-- It looks into two trees: the powers by place, and the places by power. What the trees have is tested, so nothing is proved of how they are made.
use mathlib.Core.Path.{◌≡◌, sym, ap, ◌∙◌, subst}
use mathlib.Core.Bool.{Bool, true, false, ◌&&◌, ◌||◌}
use Prim.Native.Nat.{ℕ, zero, suc, ◌+◌, ◌/◌, ◌%◌, ◌<◌}
use native.Mathlib.Nat.{le_of_suc-le-suc, not-suc-le-zero, add-zero, zero-add, add-suc, suc-add}
use lib.Dec.{T, eqb, ltb, eqb→eq, ltb→lt, eqb-suc-zero}
use Rattle.gf.specs.Field.{Modulus, width, size, order, times_x, shift, alpha, Logarithm}
use Rattle.gf.proofs.Ring.{shift_in, shift_zero}
use Rattle.gf.proofs.Cyclic.{Cyclic}

-- ---- trees: a number at each place, found by the place's binary digits; 0 where nothing was put
pub data Tree : Type 0 where
  leaf : ℕ → Tree
  node : Tree → Tree → Tree

unfoldable pub child : Tree → ℕ → Tree
child (leaf x) i = leaf x
child (node l r) zero = l
child (node l r) (suc m) = r

-- by d digits; the recursion is on d, since one on the tree takes twice the memory
unfoldable pub find : ℕ → Tree → ℕ → ℕ
find zero (leaf x) i = x
find zero (node l r) i = 0
find (suc d) t i = find d (child t (i % 2)) (i / 2)

-- x at the place i, below 2 ^ d
unfoldable pub put : ℕ → Tree → ℕ → ℕ → Tree
put zero t i x = leaf x
put (suc d) (leaf y) i x = elim (i % 2) [ zero ↦ node (put d (leaf 0) (i / 2) x) (leaf 0) | suc m ↦ node (leaf 0) (put d (leaf 0) (i / 2) x) ]
put (suc d) (node l r) i x = elim (i % 2) [ zero ↦ node (put d l (i / 2) x) r | suc m ↦ node l (put d r (i / 2) x) ]

-- n powers, from the place i and the power v on
unfoldable pub powers : Modulus → ℕ → ℕ → ℕ → Tree → Tree
powers F zero i v t = t
powers F (suc n) i v t = powers F n (suc i) (times_x F v) (put (width F) t i v)

unfoldable pub logs : Modulus → ℕ → ℕ → ℕ → Tree → Tree
logs F zero i v t = t
logs F (suc n) i v t = logs F n (suc i) (times_x F v) (put (width F) t v i)

unfoldable pub power_tree : Modulus → Tree
power_tree F = powers F (order F) 0 1 (leaf 0)

unfoldable pub log_tree : Modulus → Tree
log_tree F = logs F (order F) 0 1 (leaf 0)

-- ---- the test
module _ (F : Modulus) (P L : Tree) where
  abbrev pub pow : ℕ → ℕ
  pow i = find (width F) P i

  abbrev pub log : ℕ → ℕ
  log a = find (width F) L a

  -- at each of n places from i on, where the power is v, the trees have v at i and i at v; and after the last place the power is 1
  unfoldable pub walk : ℕ → ℕ → ℕ → Bool
  walk zero i v = eqb v 1
  walk (suc n) i v = eqb (pow i) v && (eqb (log v) i && walk n (suc i) (times_x F v))

  -- i is below the order, and its power is a
  abbrev pub reaches : ℕ → ℕ → Bool
  reaches a i = ltb i (order F) && eqb (pow i) a

  -- each of n numbers from a on, but 0, is reached
  unfoldable pub all : ℕ → ℕ → Bool
  all zero a = true
  all (suc n) a = (eqb a 0 || reaches a (log a)) && all n (suc a)

  unfoldable pub test : Bool
  test = walk (order F) 0 1 && all (size F) 0

-- ---- what the test shows
pub both : (a b : Bool) → T (a && b) → T a × T b
both true b t = (tt, t)
both false b t = absurd t

pub unless : (a : ℕ) (b : Bool) → 0 < a → T (eqb a 0 || b) → T b
unless zero b h t = absurd (not-suc-le-zero h)
unless (suc a) b h t = subst (λ (x : Bool). T (x || b)) (eqb-suc-zero a) t

module _ (F : Modulus) (P L : Tree) where
  walk_end : (n i v : ℕ) → T (walk F P L n i v) → shift F n v ≡ 1
  unfolding walk
  walk_end zero i v t = shift_zero F v ∙ eqb→eq v 1 t
  walk_end (suc n) i v t = sym (shift_in F n v) ∙ walk_end n (suc i) (times_x F v) (both (eqb (log F P L v) i) _ (both (eqb (pow F P L i) v) _ t).1).1

  walk_at : (n i v : ℕ) → T (walk F P L n i v) → (j : ℕ) → j < n → (pow F P L (i + j) ≡ shift F j v) × (log F P L (shift F j v) ≡ i + j)
  unfolding walk
  walk_at zero i v t j h = absurd (not-suc-le-zero h)
  walk_at (suc n) i v t zero h =
      let s = both (eqb (pow F P L i) v) _ t in
      rw (shift_zero F v, add-zero i) (eqb→eq (pow F P L i) v s.0, eqb→eq (log F P L v) i (both (eqb (log F P L v) i) _ s.1).0)
  walk_at (suc n) i v t (suc j) h =
      let s = (both (eqb (log F P L v) i) _ (both (eqb (pow F P L i) v) _ t).1).1 in
      rw (add-suc i j, ← suc-add i j, ← shift_in F j v) (walk_at n (suc i) (times_x F v) s j (le_of_suc-le-suc h))

  all-at : (n a : ℕ) → T (all F P L n a) → (j : ℕ) → j < n → 0 < a + j → T (reaches F P L (a + j) (log F P L (a + j)))
  unfolding all
  all-at zero a t j h pos = absurd (not-suc-le-zero h)
  all-at (suc n) a t zero h pos =
      let s = (both (eqb a 0 || reaches F P L a (log F P L a)) _ t).0 in
      rw (add-zero a) (unless a (reaches F P L a (log F P L a)) (rw (add-zero a) at pos) s)
  all-at (suc n) a t (suc j) h pos =
      let s = (both (eqb a 0 || reaches F P L a (log F P L a)) _ t).1 in
      rw (add-suc a j, ← suc-add a j) (all-at n (suc a) s j (le_of_suc-le-suc h) (rw (suc-add a j, ← add-suc a j) pos))

  module _ (t : T (test F P L)) where
    walked : T (walk F P L (order F) 0 1)
    unfolding test
    walked = (both (walk F P L (order F) 0 1) _ t).0

    power_at : (i : ℕ) → i < order F → pow F P L i ≡ alpha F i
    power_at i h = ap (pow F P L) (sym (zero-add i)) ∙ (walk_at (order F) 0 1 walked i h).0

    log-at : (i : ℕ) → i < order F → log F P L (alpha F i) ≡ i
    log-at i h = (walk_at (order F) 0 1 walked i h).1 ∙ zero-add i

    -- what `reaches` says
    pub reached : (a i : ℕ) → T (reaches F P L a i) → Logarithm F a i
    reached a i r =
        let s = both (ltb i (order F)) _ r in
        let h = ltb→lt i (order F) s.0 in
        record { below = h; is = sym (power_at i h) ∙ eqb→eq (pow F P L i) a s.1 }

    logged : (a : ℕ) → 0 < a → a < size F → Logarithm F a (log F P L a)
    unfolding test
    logged a pos h =
        reached a (log F P L a)
        (rw (zero-add a) at (all-at (size F) 0 (both (walk F P L (order F) 0 1) _ t).1 a h (rw (zero-add a) pos)))

    pub cyclic : Cyclic F
    cyclic = record {
      turn = walk_end (order F) 0 1 walked;
      log = λ a pos h. (log F P L a, logged a pos h);
      apart = λ i j hi hj e. sym (log-at i hi) ∙ ap (log F P L) e ∙ log-at j hj;
    }
