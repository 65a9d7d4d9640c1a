-- Decoding by linear algebra: a kernel vector of the power sums' matrix locates the errors, and the values are unique.
use mathlib.Core.Path.{◌≡◌, sym, ap, ap₂, ◌∙◌}
use mathlib.Core.Logic.{◌≢◌, ◌⊎◌, inl, inr}
use Prim.Native.Nat.{ℕ, suc, ◌+◌, ◌≤◌, ◌<◌}
use native.Mathlib.Omega.{arith}
use native.Mathlib.Nat.{suc-add}
use Rattle.theory.specs.Field.{Field}
use Rattle.theory.specs.Word.{Places, Off, IsZero, NonZero, sum, pow, wt}
use Rattle.theory.specs.Code.{Points, syn, IsCode, ev}
use Rattle.theory.specs.Matrix.{Mat, Ker, Stopped, stop_vector, Steps}
use Rattle.theory.proofs.Field.{ring, add-zero, add-self, zero-mul, mul-zero, mul-one, mul_comm, mul-cancel, eq-of-add, zero-of-not}
use Rattle.theory.proofs.Place.{find-place}
use Rattle.theory.proofs.Sum.{sum-ext, sum-suc, sum-swap, sum-mul, sum-reindex}
use Rattle.theory.proofs.Weight.{wt-max, wt-mono, wt-places}
use Rattle.theory.proofs.Power.{pow-add}
use Rattle.theory.proofs.Distance.{syn-add, syn-received, vandermonde, points-at}
use Rattle.theory.proofs.Poly.{few-roots}
use Rattle.theory.proofs.Reduced.{stop-below, stop-at, stop-above, stopped-kernel}

module _ (K : Field) where
  open K use {F, 𝟎, 𝟏, add as ◌⊕◌, mul as ◌⊗◌}

  infixl 65 ◌⊕◌
  infixl 70 ◌⊗◌
  -- a word times the values of a polynomial: its power sums are the products of the coefficients and the word's power sums
  pub syn-ev : (X : ℕ → F) (n : ℕ) (e Λ : ℕ → F) (m i : ℕ)
      → syn K X n (λ p. e p ⊗ ev K Λ m (X p)) i ≡ sum K (λ j. syn K X n e (i + j) ⊗ Λ j) m
  unfolding syn ev
  syn-ev X n e Λ m i =
      sum-ext K _ _ n (λ p l. row p) ∙ sum-swap K (λ p j. Λ j ⊗ (e p ⊗ pow K (X p) (i + j))) n m
      ∙ sum-ext K _ _ m (λ j l. sum-mul K (Λ j) _ n ∙ mul_comm K _ _)
    where
      row : (p : ℕ) → e p ⊗ sum K (λ j. Λ j ⊗ pow K (X p) j) m ⊗ pow K (X p) i ≡ sum K (λ j. Λ j ⊗ (e p ⊗ pow K (X p) (i + j))) m
      row p =
          mul_comm K _ _ ∙ sym (K.mul_assoc _ _ _) ∙ sym (sum-mul K (pow K (X p) i ⊗ e p) _ m)
          ∙ sum-ext K _ _ m (λ j l. simp (pow-add, ring))

  module _ (X : ℕ → F) (n : ℕ) (P : Points K X n) where
    -- THEOREM (locator). Where e has at most t places that are not zero and power sums S, a solution Λ of the key equations, that is a
    -- kernel vector of the t by m matrix with the entries S (i + j + 1), vanishes at each of these places.
    pub locator : (t m : ℕ) (e Λ : ℕ → F) → wt K e n ≤ t → Ker K t m (λ i j. syn K X n e (suc (i + j))) Λ → (p : ℕ) → p < n
        → e p ≢ 𝟎 → ev K Λ m (X p) ≡ 𝟎
    locator t m e Λ w h p l d =
        mul-cancel K (e p) _ d
        (vandermonde K X n P t (λ p. e p ⊗ ev K Λ m (X p)) (omega (arith, wt-mono K e (λ p. e p ⊗ ev K Λ m (X p)) n (λ i k q. rw q (zero-mul K _))))
        (λ i k. syn-ev X n e Λ m (suc i) ∙ sum-ext K _ _ m (λ j o. rw suc-add) ∙ h i k) p l)

    -- THEOREM (values). Of words that are zero outside of r ≤ h places, h power sums determine the values at these places.
    pub values : (h r : ℕ) (p : ℕ → ℕ) (e Y : ℕ → F) → r ≤ h
        → Places n r p
        → ((i : ℕ) → i < n → Off r p i → e i ≡ 𝟎)
        → ((j : ℕ) → j < h → sum K (λ l. Y l ⊗ pow K (X (p l)) (suc j)) r ≡ syn K X n e (suc j))
        → (l : ℕ) → l < r → Y l ≡ e (p l)
    unfolding syn
    values h r p e Y k Q z q l m =
        eq-of-add K (Y l) (e (p l))
        (vandermonde K (λ l. X (p l)) r (points-at K X n P r p Q) h (λ l. Y l ⊕ e (p l)) (omega (arith, wt-max K (λ l. Y l ⊕ e (p l)) r))
        (λ j i. syn-add K (λ l. X (p l)) r Y (λ l. e (p l)) (suc j) ∙ rw (q j i) (rw (sum-reindex K r (λ i. e i ⊗ pow K (X i) (suc j)) n p Q (λ i o f. rw (z i o f) (zero-mul K _))) (add-self K _))) l m)

  -- y is received, c a code word, e their difference, of weight at most t; Λ solves the key equations of y
  module _ (X : ℕ → F) (n : ℕ) (P : Points K X n) (t : ℕ) (y c e : ℕ → F) (code : IsCode K X n (t + t) c)
      (sent : (i : ℕ) → i < n → y i ≡ c i ⊕ e i) (few : wt K e n ≤ t) (Λ : ℕ → F)
      (key : Ker K t (suc t) (λ i j. syn K X n y (suc (i + j))) Λ) where
    -- each error place is a root
    pub located : (p : ℕ) → p < n → e p ≢ 𝟎 → ev K Λ (suc t) (X p) ≡ 𝟎
    located =
        locator X n P t (suc t) e Λ few
        (λ i l. sum-ext K _ _ (suc t) (λ j k. ap (λ x. x ⊗ Λ j) (sym (syn-received K X n (t + t) y c e code sent (i + j) (omega arith)))) ∙ key i l)

    -- p 0, .., p (r - 1) are roots, and Λ is not zero: there are at most t
    module _ (nonzero : NonZero K (suc t) Λ) (r : ℕ) (p : ℕ → ℕ) (Q : Places n r p)
        (root : (l : ℕ) → l < r → ev K Λ (suc t) (X (p l)) ≡ 𝟎) where
      pub few-places : r ≤ t
      few-places =
          omega (arith, few-roots K X n P t Λ nonzero, wt-places K r (λ i. ev K Λ (suc t) (X i)) n p Q root)

      -- they are all the roots: the error is zero elsewhere, and its values are the solution of the power sums' equations
      module _ (every : (i : ℕ) → i < n → ev K Λ (suc t) (X i) ≡ 𝟎 → Off r p i → ⊥) where
        pub no-error : (i : ℕ) → i < n → Off r p i → e i ≡ 𝟎
        no-error i l o = zero-of-not K (e i) (λ d. every i l (located i l d) o)

        pub error-values : (h : ℕ) (Y : ℕ → F) → r ≤ h → h ≤ t + t
            → ((j : ℕ) → j < h → sum K (λ l. Y l ⊗ pow K (X (p l)) (suc j)) r ≡ syn K X n y (suc j)) → (l : ℕ) → l < r
            → Y l ≡ e (p l)
        error-values h Y rh ht q =
            values X n P h r p e Y rh Q no-error (λ j k. q j k ∙ syn-received K X n (t + t) y c e code sent j (omega arith))

        -- y with these values added at these places is the code word
        pub corrected : (h : ℕ) (Y z : ℕ → F) → r ≤ h → h ≤ t + t
            → ((j : ℕ) → j < h → sum K (λ l. Y l ⊗ pow K (X (p l)) (suc j)) r ≡ syn K X n y (suc j))
            → ((l : ℕ) → l < r → z (p l) ≡ y (p l) ⊕ Y l) → ((i : ℕ) → i < n → Off r p i → z i ≡ y i) → (i : ℕ) → i < n → z i ≡ c i
        corrected h Y z rh ht q on off i l = go (find-place r p i)
          where
            go : ((a : ℕ) × (a < r) × (i ≡ p a)) ⊎ Off r p i → z i ≡ c i
            go (inl (a, k, o)) =
                rw o (on a k ∙ rw (sent (p a) (Q.below a k), error-values h Y rh ht q a k) (simp ring))
            go (inr o) = off i l o ∙ sent i l ∙ rw (no-error i l o) (add-zero K _)

  -- the equations for the values: h rows and r + 1 columns, the powers of r located points, and the power sums S
  module _ (X : ℕ → F) (n : ℕ) (P : Points K X n) (h r : ℕ) (p : ℕ → ℕ) (Q : Places n r p) (le : r ≤ h) (S : ℕ → F) (A : Mat K)
      (left : (i l : ℕ) → i < h → l < r → A i l ≡ pow K (X (p l)) (suc i)) (right : (i : ℕ) → i < h → A i r ≡ S (suc i)) where
    row : (v : ℕ → F) → Ker K h (suc r) A v → (i : ℕ) → i < h
        → sum K (λ l. v l ⊗ pow K (X (p l)) (suc i)) r ⊕ S (suc i) ⊗ v r ≡ 𝟎
    row v ker i l =
        sym
        (sum-suc K (λ c. A i c ⊗ v c) r ∙ ap₂ ◌⊕◌ (sum-ext K _ _ r (λ c k. rw (left i c l k) (mul_comm K _ _))) (rw (right i l)))
        ∙ ker i l

    -- a kernel vector that is zero at the last column is zero
    early : (v : ℕ → F) → Ker K h (suc r) A v → v r ≡ 𝟎 → IsZero K r v
    early v ker z =
        vandermonde K (λ l. X (p l)) r (points-at K X n P r p Q) h v (omega (arith, wt-max K v r))
        (λ j k. unfold syn in rw (z, mul-zero, add-zero) at (row v ker j k))

    -- THEOREM (system). Elimination of these equations does not stop before the last column ..
    pub system-done : (j : ℕ) {M : Mat K} → j < r → Steps K h (suc r) A M → Stopped K h j M → ⊥
    system-done j {M} l s T =
        K.one_ne_zero
        (sym (stop-at K j M)
        ∙ early (stop_vector K j M) (stopped-kernel K h (suc r) j (omega arith) s T) (stop-above K j M r l) j l)

    -- .. and stopped there it has the solution in that column
    pub system-solved : {M : Mat K} → Steps K h (suc r) A M → Stopped K h r M → (i : ℕ) → i < h
        → sum K (λ l. M l r ⊗ pow K (X (p l)) (suc i)) r ≡ S (suc i)
    system-solved {M} s T i l =
        sum-ext K _ _ r (λ c k. rw (← (stop-below K r M c k)))
        ∙ eq-of-add K _ _
        (rw (stop-at, mul-one) at (row (stop_vector K r M) (stopped-kernel K h (suc r) r (omega arith) s T) i l))
