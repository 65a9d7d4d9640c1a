-- Numbers listed in rising order: a loop makes the list, a number at a time; a predicate has one such list; that of the places where a
-- word is not zero is as long as the word's weight.
use mathlib.Core.Path.{◌≡◌, refl, sym, ap, ◌∙◌}
use mathlib.Core.Logic.{◌≢◌, ◌⊎◌, inl, inr}
use Prim.Native.Nat.{ℕ, zero, suc, ◌≤◌, ◌<◌}
use native.Mathlib.Omega.{arith}
use Rattle.theory.specs.Field.{Field}
use Rattle.theory.specs.Word.{Places, Off, wt}
use Rattle.theory.proofs.Field.{zero-of-not}
use Rattle.theory.proofs.Place.{at-or, below_or, find-place, places-ne}
use Rattle.theory.proofs.Weight.{nz-one, wt-along}
use Rattle.pairs.specs.Places.{Listed}

-- a loop over lo, lo + 1, .. that keeps the numbers at which A holds
module _ (A : ℕ → Type 0) (lo : ℕ) where
  pub listed-none : (I : ℕ → ℕ) → Listed A lo lo 0 I
  listed-none I =
      record {
        rising = λ a b h l. absurd (omega arith);
        from = λ a l. absurd (omega arith);
        under = λ a l. absurd (omega arith);
        holds = λ a l. absurd (omega arith);
        every = λ i h l. absurd (omega arith);
      }

  -- a number that is passed over
  pub listed-skip : (hi u : ℕ) (I : ℕ → ℕ) → ¬ A hi → Listed A lo hi u I → Listed A lo (suc hi) u I
  listed-skip hi u I n L =
      record {
        rising = L.rising;
        from = L.from;
        under = λ a l. omega (arith, L.under a l);
        holds = L.holds;
        every = λ i h l p. at-or i hi (λ e. absurd (n (rw e at p))) (λ d. L.every i h (omega arith) p);
      }

  -- a number that is kept: I' is I with hi after its u numbers
  pub listed_more : (hi u : ℕ) (I I' : ℕ → ℕ) → lo ≤ hi → A hi → Listed A lo hi u I → ((a : ℕ) → a < u → I' a ≡ I a) → I' u ≡ hi
      → Listed A lo (suc hi) (suc u) I'
  listed_more hi u I I' lh p L old new =
      record {
        rising = λ a b h l. at-or b u (λ e. let q : a < u = omega arith in let r : I' b ≡ hi = rw e new in omega (arith, old a q, L.under a q)) (λ d. omega (arith, old a (omega arith), old b (omega arith), L.rising a b h (omega arith)));
        from = λ a l. at-or a u (λ e. rw (e, new) lh) (λ d. rw (old a (omega arith)) (L.from a (omega arith)));
        under = λ a l. at-or a u (λ e. rw (e, new) (omega arith)) (λ d. omega (arith, old a (omega arith), L.under a (omega arith)));
        holds = λ a l. at-or a u (λ e. rw (e, new) p) (λ d. rw (old a (omega arith)) (L.holds a (omega arith)));
        every = λ i h l q. at-or i hi (λ e. (u, omega arith, e ∙ sym new)) (λ d. let (a, b, e) = L.every i h (omega arith) q in (a, omega arith, e ∙ sym (old a b)));
      }

  -- the numbers listed are distinct
  pub listed-places : (hi u : ℕ) (I : ℕ → ℕ) → Listed A lo hi u I → Places hi u I
  listed-places hi u I L =
      record { below = L.under; apart = λ a b h l e. let q : I a < I b = L.rising a b h l in omega arith }

-- another predicate that says the same
pub listed-iff : {A B : ℕ → Type 0} {lo hi u : ℕ} {I : ℕ → ℕ} → ((i : ℕ) → i < hi → A i → B i) → ((i : ℕ) → i < hi → B i → A i)
    → Listed A lo hi u I → Listed B lo hi u I
listed-iff f g L =
    record {
      rising = L.rising;
      from = L.from;
      under = L.under;
      holds = λ a l. f _ (L.under a l) (L.holds a l);
      every = λ i h l q. L.every i h l (g i l q);
    }

-- ---- one list

module _ {A : ℕ → Type 0} {lo hi u v : ℕ} {I J : ℕ → ℕ} (L : Listed A lo hi u I) (M : Listed A lo hi v J) where
  -- the number after the first a, where the first a are the same
  reaches : (a : ℕ) → a < u → ((b : ℕ) → b < a → I b ≡ J b) → (a < v) × (J a ≤ I a)
  reaches a l same =
      let (c, h, e) = M.every (I a) (L.from a l) (L.under a l) (L.holds a l) in
      below_or c a (λ q. let z : I c < I a = L.rising c a q l in let y : I c ≡ J c = same c q in absurd (omega arith))
      (λ q. at-or c a (λ o. let z : J c ≡ J a = ap J o in (omega arith, omega arith)) (λ o. let z : J a < J c = M.rising a c (omega arith) h in (omega arith, omega arith)))

module _ {A : ℕ → Type 0} {lo hi u v : ℕ} {I J : ℕ → ℕ} (L : Listed A lo hi u I) (M : Listed A lo hi v J) where
  upto : (n a : ℕ) → a < n → a < u → (a < v) × (I a ≡ J a)
  upto zero a l h = absurd (omega arith)
  upto (suc n) a l h =
      let same : (b : ℕ) → b < a → I b ≡ J b = λ b q. (upto n b (omega arith) (omega arith)).1 in
      let (p, q) = reaches L M a h same in
      let r = reaches M L a p (λ b o. sym (same b o)) in
      (p, omega (arith, r.1))

  -- THEOREM (listed, once). A predicate's list is the only one.
  pub listed-once : (a : ℕ) → a < u → (a < v) × (I a ≡ J a)
  listed-once a = upto (suc a) a (omega arith)

pub listed-count : {A : ℕ → Type 0} {lo hi u v : ℕ} {I J : ℕ → ℕ} → Listed A lo hi u I → Listed A lo hi v J → u ≡ v
listed-count {A} {lo} {hi} {u} {v} {I} {J} L M =
    below_or u v (λ l. let r = listed-once M L u l in absurd (omega (arith, r.0)))
    (λ l. at-or u v (λ e. e) (λ d. let r = listed-once L M v (omega arith) in absurd (omega (arith, r.0))))

-- ---- its length is a weight

module _ (K : Field) where
  open K use {F, 𝟎, 𝟏}

  pub wt-ones : (n : ℕ) → wt K (λ i. 𝟏) n ≡ n
  unfolding wt
  wt-ones zero = refl
  wt-ones (suc n) = omega (arith, wt-ones n, nz-one K 𝟏 K.one_ne_zero)

  -- a word that is zero off u places has weight u at most
  pub wt-off : (f : ℕ → F) (n u : ℕ) (I : ℕ → ℕ) → ((i : ℕ) → i < n → Off u I i → f i ≡ 𝟎) → wt K f n ≤ u
  wt-off f n u I z =
      omega (arith, wt-ones u, wt-along K u (λ a. 𝟏) f n I (λ i l h. z i l (λ a q e. K.one_ne_zero (h a q (sym e)))))

  -- and one that is not zero at u distinct places has weight u at least
  pub wt-on : (f : ℕ → F) (n u : ℕ) (I : ℕ → ℕ) → Places n u I → ((a : ℕ) → a < u → f (I a) ≢ 𝟎) → u ≤ wt K f n
  wt-on f n u I Q d =
      omega (arith, wt-ones u, wt-along K n f (λ a. 𝟏) u (λ i. number i (find-place u I i)) (λ a l h. absurd (d a l (h (I a) (Q.below a l) (own a l (find-place u I (I a)))))))
    where
      number : (i : ℕ) → ((a : ℕ) × (a < u) × (i ≡ I a)) ⊎ Off u I i → ℕ
      number i (inl (a, q, e)) = a
      number i (inr o) = 0

      own : (a : ℕ) → a < u → (g : ((b : ℕ) × (b < u) × (I a ≡ I b)) ⊎ Off u I (I a)) → number (I a) g ≡ a
      own a l (inl (b, q, e)) = at-or b a (λ o. o) (λ o. absurd (places-ne n u I Q a b l q (λ p. o (sym p)) e))
      own a l (inr o) = absurd (o a l refl)

  -- THEOREM (listed, weight). The places that are not zero number the weight.
  pub listed-weight : (f : ℕ → F) (n u : ℕ) (I : ℕ → ℕ) → Listed (λ i. f i ≢ 𝟎) 0 n u I → wt K f n ≡ u
  listed-weight f n u I L =
      omega (arith, wt-off f n u I (λ i l o. zero-of-not K (f i) (λ d. let (a, q, e) = L.every i (omega arith) l d in o a q e)), wt-on f n u I (listed-places _ 0 n u I L) L.holds)
