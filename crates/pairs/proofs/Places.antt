-- T never runs short: of the n - w unmixed places at most k - u stand below k, and n - w ≥ k.
use mathlib.Core.Path.{◌≡◌, sym, ◌∙◌}
use Prim.Native.Nat.{ℕ, zero, suc, ◌+◌, ◌-◌, ◌≤◌, ◌<◌}
use native.Mathlib.Omega.{arith}
use native.Mathlib.Nat.{add-suc}
use native.Mathlib.Nat.{add-zero as +-zero}
use native.Mathlib.Decide.{dec_lt}
use Rattle.theory.specs.Field.{Field}
use Rattle.theory.specs.Word.{pick, Places, wt}
use Rattle.theory.proofs.Place.{pick_yes, pick_no}
use Rattle.theory.proofs.Weight.{wt-places, wt-along}
use Rattle.pairs.specs.Sizes.{Sizes, total, plain}
use Rattle.pairs.specs.Key.{Key, WellFormed, Unmixed}
use Rattle.pairs.specs.Places.{Listed, Split}
use Rattle.pairs.proofs.Listing.{listed-places, wt-ones, wt-off}

-- the places of I are distinct, and so are those of T
module _ {k N : ℕ} {A : ℕ → Type 0} {u : ℕ} {I T : ℕ → ℕ} (S : Split k N A u I T) where
  pub I-places : Places k u I
  I-places = listed-places _ 0 k u I S.solved

  pub T-places : Places N u T
  T-places = record { below = S.low; apart = λ a b h l e. let q : T a < T b = S.rising a b h l in omega arith }

module _ (K : Field) (s : Sizes) (κ : Key K) (ok : WellFormed K s κ) (u : ℕ) (I : ℕ → ℕ)
    (mixed : Listed (λ i. ¬ Unmixed K s κ i) 0 s.k u I) (v : ℕ) (T : ℕ → ℕ)
    (spare : Listed (Unmixed K s κ) s.k (total s) v T) where
  open K use {F, 𝟎, 𝟏}

  wt-append : (f : ℕ → F) (n r : ℕ) → wt K f (n + r) ≡ wt K f n + wt K (λ i. f (n + i)) r
  unfolding wt
  wt-append f n zero = rw (+-zero n) (omega arith)
  wt-append f n (suc r) = rw add-suc (omega (arith, wt-append f n r))

  -- one at the unmixed places
  marks : ℕ → F
  marks i = pick (dec_lt (κ.p2 i) (plain s)) 𝟏 𝟎

  marks-on : (i : ℕ) → Unmixed K s κ i → marks i ≡ 𝟏
  unfolding marks
  marks-on i l = pick_yes (dec_lt (κ.p2 i) (plain s)) _ _ l

  marks-off : (i : ℕ) → ¬ Unmixed K s κ i → marks i ≡ 𝟎
  unfolding marks
  marks-off i l = pick_no (dec_lt (κ.p2 i) (plain s)) _ _ l

  -- P2 takes the unmixed places to all the numbers below n - w
  marked : plain s ≤ wt K marks (total s)
  marked =
      omega (arith, wt-ones K (plain s), wt-along K (total s) marks (λ j. 𝟏) (plain s) κ.p2 (λ j l z. sym (marks-on (κ.q2 j) (rw (ok.second.there j (omega arith)) l)) ∙ z (κ.q2 j) (ok.second.low j (omega arith)) (ok.second.there j (omega arith))))

  -- no more of them from k up than T lists
  above : wt K (λ i. marks (s.k + i)) (total s - s.k) ≤ v
  above =
      wt-off K (λ i. marks (s.k + i)) (total s - s.k) v (λ a. T a - s.k)
      (λ i l o. marks-off (s.k + i) (λ h. let (a, b, e) = spare.every (s.k + i) (omega arith) (omega arith) h in o a b (omega arith)))

  -- THEOREM (enough). The unmixed places from k up are at least as many as the mixed ones below k.
  pub enough : u ≤ v
  enough =
      let e : s.k + (total s - s.k) ≡ total s = omega arith in
      omega (arith, marked, above, rw e at (wt-append marks s.k (total s - s.k)), wt-places K u marks s.k I (listed-places _ 0 s.k u I mixed) (λ a l. marks-off (I a) (mixed.holds a l)))

  -- so I, and the first u places that T lists, split the places of a well-formed key
  pub split : (T₁ : ℕ → ℕ) → ((b : ℕ) → b < u → T₁ b ≡ T b) → Split s.k (total s) (Unmixed K s κ) u I T₁
  split T₁ e =
      record {
        solved = mixed;
        rising = λ a b h l. omega (arith, enough, e a (omega arith), e b l, spare.rising a b h (omega (arith, enough)));
        high = λ b l. rw (e b l) (spare.from b (omega (arith, enough)));
        low = λ b l. rw (e b l) (spare.under b (omega (arith, enough)));
        read = λ b l. rw (e b l) (spare.holds b (omega (arith, enough)));
      }
