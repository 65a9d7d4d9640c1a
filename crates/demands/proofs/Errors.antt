-- The error word of rising places and values that are not zero: its places that are not zero are those places, with those values.
use mathlib.Core.Path.{◌≡◌, refl, sym, ◌∙◌}
use mathlib.Core.Logic.{◌≢◌, ◌⊎◌, inl, inr}
use mathlib.Core.Bool.{Bool, true, false, false≢true, ◌||◌}
use mathlib.Core.List.{List, [], ◌∷◌}
use Prim.Native.Nat.{ℕ, zero, suc, ◌+◌, ◌<◌}
use native.Mathlib.Omega.{arith}
use native.Mathlib.Decide.{ℕ_discrete}
use lib.Dec.{eqb}
use lib.Seq.{ext_get_or}
use lib.ListN.{length, get_or}
use borrow.Author.Tests.{eq-eqb, ne_eqb}
use Rattle.theory.proofs.Place.{find-place}
use Rattle.pairs.specs.Places.{Listed}
use Rattle.pairs.proofs.Listing.{listed-once, listed-count}
use Rattle.scheme.specs.Lists.{has, passing}
use Rattle.scheme.specs.Sealing.{error_at}
use Rattle.tie.proofs.Passing.{passing-listed}

pub error_at-off : (ps vs : List ℕ) (j : ℕ) → ((i : ℕ) → i < length ps → get_or ps i 0 ≢ j) → error_at ps vs j ≡ 0
unfolding error_at
error_at-off [] vs j d = refl
error_at-off (p ∷ ps) [] j d = refl
error_at-off (p ∷ ps) (v ∷ vs) j d = rw (ne_eqb p j (d 0 (omega arith))) (error_at-off ps vs j (λ i h. d (suc i) (omega arith)))

pub error_at-at : (ps vs : List ℕ) → ((i j : ℕ) → i < j → j < length ps → get_or ps i 0 < get_or ps j 0) → (i : ℕ) → i < length ps
    → error_at ps vs (get_or ps i 0) ≡ get_or vs i 0
unfolding error_at
error_at-at [] vs r i h = absurd (omega arith)
error_at-at (p ∷ ps) [] r i h = refl
error_at-at (p ∷ ps) (v ∷ vs) r zero h = rw (eq-eqb p p refl)
error_at-at (p ∷ ps) (v ∷ vs) r (suc i) h =
    let l : p < get_or ps i 0 = r 0 (suc i) (omega arith) h in
    let d : p ≢ get_or ps i 0 = λ e. omega arith in
    rw (ne_eqb p (get_or ps i 0) d) (error_at-at ps vs (λ a b x y. r (suc a) (suc b) (omega arith) (omega arith)) i (omega arith))

-- ---- a list without a zero
pub none-zero : (l : List ℕ) → has l 0 ≡ false → (i : ℕ) → i < length l → get_or l i 0 ≢ 0
unfolding has
none-zero [] e i h = absurd (omega arith)
none-zero (x ∷ l) e i h = go (ℕ_discrete x 0) i h (none-zero l)
  where
    go : Dec (x ≡ 0) → (i : ℕ) → i < length (x ∷ l) → (has l 0 ≡ false → (i : ℕ) → i < length l → get_or l i 0 ≢ 0) → get_or (x ∷ l) i 0 ≢ 0
    go (yes q) i h ih = absurd (false≢true (sym e ∙ rw (eq-eqb x 0 q)))
    go (no d) zero h ih = d
    go (no d) (suc i) h ih = ih (sym (rw (ne_eqb x 0 d)) ∙ e) i (omega arith)

pub has-none : (l : List ℕ) (x : ℕ) → ((i : ℕ) → i < length l → get_or l i 0 ≢ x) → has l x ≡ false
unfolding has
has-none [] x d = refl
has-none (y ∷ l) x d = rw (ne_eqb y x (d 0 (omega arith))) (has-none l x (λ i h. d (suc i) (omega arith)))

pub has_some : (l : List ℕ) (i : ℕ) → i < length l → has l (get_or l i 0) ≡ true
unfolding has
has_some [] i h = absurd (omega arith)
has_some (y ∷ l) zero h = rw (eq-eqb y y refl)
has_some (y ∷ l) (suc i) h = go (eqb y (get_or l i 0)) (has_some l i (omega arith))
  where
    go : (b : Bool) → has l (get_or l i 0) ≡ true → b || has l (get_or l i 0) ≡ true
    go true e = refl
    go false e = e

-- ---- the list of the places that pass is the only one
pub passing-once : (p : ℕ → Bool) (n : ℕ) (l : List ℕ) → Listed (λ j. p j ≡ true) 0 n (length l) (λ a. get_or l a 0) → passing p 0 n ≡ l
passing-once p n l L =
    let M : Listed (λ j. p j ≡ true) 0 n (length (passing p 0 n)) (λ a. get_or (passing p 0 n) a 0) = (let e : 0 + n ≡ n = omega arith in rw e at (passing-listed p 0 n)) in
    ext_get_or 0 (passing p 0 n) l (listed-count M L) (λ i h. (listed-once M L i h).1)

-- ---- the error word
module _ (n : ℕ) (ps vs : List ℕ) (rising : (i j : ℕ) → i < j → j < length ps → get_or ps i 0 < get_or ps j 0)
    (below : (i : ℕ) → i < length ps → get_or ps i 0 < n) (nonzero : (i : ℕ) → i < length ps → get_or vs i 0 ≢ 0) where
  pub errors-listed : Listed (λ j. error_at ps vs j ≢ 0) 0 n (length ps) (λ a. get_or ps a 0)
  errors-listed =
      record {
        rising = rising;
        from = λ a l. omega arith;
        under = below;
        holds = λ a l e. nonzero a l (sym (error_at-at ps vs rising a l) ∙ e);
        every = λ j lo hi d. find j d (find-place (length ps) (λ a. get_or ps a 0) j);
      }
    where
      find : (j : ℕ) → error_at ps vs j ≢ 0 → ((a : ℕ) × (a < length ps) × (j ≡ get_or ps a 0)) ⊎ ((a : ℕ) → a < length ps → j ≢ get_or ps a 0)
          → (a : ℕ) × (a < length ps) × (j ≡ get_or ps a 0)
      find j d (inl r) = r
      find j d (inr o) = absurd (d (error_at-off ps vs j (λ i h e. o i h (sym e))))
