-- W is regular where the rows of [I, GE] undo to independent code words. A vector of the left kernel, extended by zeros, has a word that is
-- zero at k distinct unmixed places; so it undoes to a code word that is zero at k places of n, which is zero; so it is zero itself.
use mathlib.Core.Path.{◌≡◌, refl, sym, ap, ◌∙◌}
use mathlib.Core.Logic.{◌≢◌, ◌⊎◌, inl, inr}
use Prim.Native.Nat.{ℕ, ◌-◌, ◌<◌}
use native.Mathlib.Omega.{arith}
use Rattle.theory.specs.Field.{Field}
use Rattle.theory.specs.Word.{Places, Off, IsZero, unit, sum}
use Rattle.theory.specs.Code.{Points}
use Rattle.theory.specs.Matrix.{comb, Rows, Inj}
use Rattle.theory.proofs.Field.{mul-zero, mul-one}
use Rattle.theory.proofs.Place.{below_or, find-place, places-ne}
use Rattle.theory.proofs.Sum.{sum-ext, sum-zero, sum-only, unit-same, unit-other}
use Rattle.theory.proofs.Distance.{block}
use Rattle.theory.proofs.Steps.{comb-linear}
use Rattle.pairs.specs.Sizes.{Sizes, total, plain}
use Rattle.pairs.specs.Key.{Key, WellFormed, undone, Unmixed}
use Rattle.pairs.specs.Encoding.{public, encoded}
use Rattle.pairs.specs.Places.{Split}
use Rattle.pairs.specs.Good.{Lands, W, Regular}
use Rattle.pairs.proofs.Inverse.{inverse-flip, inverse-inj}
use Rattle.pairs.proofs.Undo.{undone-place, lands-linear, lands-nil}
use Rattle.pairs.proofs.Encode.{encoded-low, encoded-comb}
use Rattle.pairs.proofs.Places.{I-places, T-places}
use Rattle.pairs.proofs.Solve.{encoded-spare}

module _ (K : Field) (s : Sizes) (κ : Key K) (ok : WellFormed K s κ) (u : ℕ) (I T : ℕ → ℕ)
    (S : Split s.k (total s) (Unmixed K s κ) u I T) where
  open K use {F, 𝟎, mul as ◌⊗◌}

  infixl 70 ◌⊗◌
  -- ---- k distinct unmixed places: those below k that are unmixed, and T a in the place of I a

  choose : (l : ℕ) → ((a : ℕ) × (a < u) × (l ≡ I a)) ⊎ Off u I l → ℕ
  choose l (inl (a, b, e)) = T a
  choose l (inr o) = l

  place : ℕ → ℕ
  place l = choose l (find-place u I l)

  stays : (l : ℕ) → Unmixed K s κ l → place l ≡ l
  unfolding place choose
  stays l h = go (find-place u I l)
    where
      go : (f : ((a : ℕ) × (a < u) × (l ≡ I a)) ⊎ Off u I l) → choose l f ≡ l
      go (inl (a, b, e)) = absurd (S.solved.holds a b (rw (← e) h))
      go (inr o) = refl

  moves : (l : ℕ) → l < s.k → ¬ Unmixed K s κ l → (a : ℕ) × (a < u) × (l ≡ I a) × (place l ≡ T a)
  unfolding place choose
  moves l q h = go (find-place u I l)
    where
      go : (f : ((a : ℕ) × (a < u) × (l ≡ I a)) ⊎ Off u I l) → (a : ℕ) × (a < u) × (l ≡ I a) × (choose l f ≡ T a)
      go (inl (a, b, e)) = (a, b, e, refl)
      go (inr o) = let (a, b, e) = S.solved.every l (omega arith) q h in absurd (o a b e)

  place_ok : (l : ℕ) → l < s.k → (place l < total s) × Unmixed K s κ (place l)
  place_ok l q =
      below_or (κ.p2 l) (plain s) (λ h. rw (stays l h) (omega arith, h))
      (λ h. let (a, b, c, e) = moves l q (λ g. omega arith) in rw e (S.low a b, S.read a b))

  place-apart : (l j : ℕ) → l < j → j < s.k → place l ≢ place j
  place-apart l j h q e =
      below_or (κ.p2 l) (plain s)
      (λ f. below_or (κ.p2 j) (plain s)
      (λ g. let z : l ≡ j = sym (stays l f) ∙ e ∙ stays j g in omega arith)
      (λ g. let (a, b, c, o) = moves j q (λ x. omega arith) in
      let z : l ≡ T a = sym (stays l f) ∙ e ∙ o in omega (arith, S.high a b)))
      (λ f. let (a, b, c, o) = moves l (omega arith) (λ x. omega arith) in
      below_or (κ.p2 j) (plain s)
      (λ g. let z : j ≡ T a = sym (stays j g) ∙ sym e ∙ o in omega (arith, S.high a b))
      (λ g. let (a', b', c', o') = moves j q (λ x. omega arith) in
      places-ne (total s) u T (T-places S) a a' b b' (λ m. let z : l ≡ j = c ∙ ap I m ∙ sym c' in omega arith) (sym o ∙ e ∙ o')))

  -- where they stand in the undone word
  seen : Places s.n s.k (λ l. κ.p1 (κ.p2 (place l)))
  seen =
      record {
        below = λ l q. ok.first.low_back _ (let r = place_ok l q in omega (arith, r.1));
        apart = λ l j h q e.
            let (a, b) = place_ok l (omega arith) in
            let (c, o) = place_ok j q in
            place-apart l j h q (inverse-inj (inverse-flip ok.second) _ _ a c (inverse-inj (inverse-flip ok.first) _ _ (omega arith) (omega arith) e));
      }

  -- ---- y at the places of I, and zero elsewhere

  spread : (ℕ → F) → ℕ → F
  spread y i = sum K (λ a. y a ⊗ unit K (I a) i) u

  spread_at : (y : ℕ → F) (a : ℕ) → a < u → spread y (I a) ≡ y a
  unfolding spread
  spread_at y a l =
      sum-only K _ u a l (λ b h d. rw (unit-other K (I b) (I a) (λ e. places-ne s.k u I (I-places S) b a h l d (sym e))) (mul-zero K _))
      ∙ rw (unit-same K (I a) (I a) refl) (mul-one K _)

  spread-off : (y : ℕ → F) (i : ℕ) → Unmixed K s κ i → spread y i ≡ 𝟎
  unfolding spread
  spread-off y i h =
      sum-zero K _ u (λ a l. rw (unit-other K (I a) i (λ e. S.solved.holds a l (rw (← e) h))) (mul-zero K _))

  -- ---- the rows of [I, GE] undo to code words, and no combination of them but that of zero undoes to zero

  module _ (X : ℕ → F) (P : Points K X s.n)
      (rows : Rows K (Lands K s X κ) s.k (public K s.k κ.ge))
      (inj : Inj K (λ y. IsZero K s.n (undone K s κ y)) s.k (public K s.k κ.ge)) where
    module _ (y : ℕ → F) (h : (b : ℕ) → b < u → comb K y (W K s.k κ.ge I T) u b ≡ 𝟎) where
      word : ℕ → F
      word = comb K (spread y) (public K s.k κ.ge) s.k

      -- the word of y is zero at the k places
      at_place : (l : ℕ) → l < s.k → encoded K s.k κ.ge (spread y) (place l) ≡ 𝟎
      unfolding comb
      at_place l q =
          below_or (κ.p2 l) (plain s) (λ f. rw (stays l f) (encoded-low K s.k κ.ge (spread y) l q ∙ spread-off y l f))
          (λ f. let (a, b, c, e) = moves l q (λ g. omega arith) in
          rw e (encoded-spare K s.k (total s) κ.ge (Unmixed K s κ) u I T S (spread y) (λ i o g. spread-off y i g) a b ∙ sum-ext K _ _ u (λ r o. rw (spread_at y r o)) ∙ h a b))

      -- so it undoes to zero
      none : IsZero K s.n (undone K s κ word)
      unfolding word
      none =
          block K X s.n P (s.n - s.k) s.k (undone K s κ word) (λ l. κ.p1 (κ.p2 (place l))) (comb-linear K (Lands K s X κ) (lands-linear K s κ X) (lands-nil K s κ X) s.k (public K s.k κ.ge) (spread y) rows) (omega arith) seen
          (λ l q. let (a, b) = place_ok l q in
          undone-place K s κ ok word (place l) a b ∙ ap (λ x. κ.inverses (κ.p1 (κ.p2 (place l))) ⊗ x) (sym (encoded-comb K s.k κ.ge (spread y) (place l)) ∙ at_place l q) ∙ mul-zero K _)

    -- THEOREM (regular). W has only the zero left kernel.
    pub regular : Regular K s.k κ.ge u I T
    regular y h a l = unfold word in sym (spread_at y a l) ∙ inj (spread y) (none y h) (I a) (S.solved.under a l)
