-- The opening's undoing: it is linear, looks at N places, reads an unmixed place up to a factor that is not zero, and moves each place of a
-- word to one place, so that no weight is gained.
use mathlib.Core.Path.{◌≡◌, sym, ap, ap₂, ◌∙◌, fun_ext}
use Prim.Native.Nat.{ℕ, zero, suc, ◌+◌, ◌-◌, ◌*◌, ◌/◌, ◌≤◌, ◌<◌}
use native.Mathlib.Omega.{arith}
use native.Mathlib.Decide.{dec_lt}
use Rattle.theory.specs.Field.{Field}
use Rattle.theory.specs.Word.{pick, IsZero, sum, wt}
use Rattle.theory.specs.Matrix.{Mat, Linear, Narrow, comb}
use Rattle.theory.proofs.Field.{ring, mul-zero, zero-mul, mul_comm, mul_assoc, mul-one, mul-cancel}
use Rattle.theory.proofs.Place.{pick_yes, pick_no, below_or}
use Rattle.theory.proofs.Weight.{wt-along}
use Rattle.theory.proofs.Distance.{code-linear, code-narrow, code-nil}
use Rattle.pairs.specs.Sizes.{Sizes, total, plain}
use Rattle.pairs.specs.Key.{Key, WellFormed, kept, undone, redone, Unmixed}
use Rattle.pairs.specs.Good.{Lands}

module _ (K : Field) (s : Sizes) (κ : Key K) where
  open K use {F, 𝟎, add as ◌⊕◌, mul as ◌⊗◌, inv}

  infixl 65 ◌⊕◌
  infixl 70 ◌⊗◌
  -- the two kinds of places of a kept word
  pub kept-plain : (y : ℕ → F) (j : ℕ) → j < plain s → kept K s κ y j ≡ y (κ.q2 j)
  unfolding kept
  kept-plain y j l = pick_yes (dec_lt j (plain s)) _ _ l

  pub kept_pair : (y : ℕ → F) (j p : ℕ) → j ≡ plain s + p
      → kept K s κ y j ≡ y (κ.q2 (plain s + 2 * p)) ⊗ κ.columns (2 * p) ⊕ y (κ.q2 (plain s + 2 * p + 1)) ⊗ κ.columns (2 * p + 1)
  unfolding kept
  kept_pair y j p e = let z : j - plain s ≡ p = omega arith in pick_no (dec_lt j (plain s)) _ _ (omega arith) ∙ rw z

  kept-add : (y z : ℕ → F) (j : ℕ) → kept K s κ (λ i. y i ⊕ z i) j ≡ kept K s κ y j ⊕ kept K s κ z j
  kept-add y z j =
      below_or j (plain s) (λ l. rw (kept-plain (λ i. y i ⊕ z i) j l, kept-plain y j l, kept-plain z j l))
      (λ l. let e : j ≡ plain s + (j - plain s) = omega arith in
      rw (kept_pair (λ i. y i ⊕ z i) j _ e, kept_pair y j _ e, kept_pair z j _ e) (simp ring))

  kept-mul : (a : F) (y : ℕ → F) (j : ℕ) → kept K s κ (λ i. a ⊗ y i) j ≡ a ⊗ kept K s κ y j
  kept-mul a y j =
      below_or j (plain s) (λ l. rw (kept-plain (λ i. a ⊗ y i) j l, kept-plain y j l))
      (λ l. let e : j ≡ plain s + (j - plain s) = omega arith in
      rw (kept_pair (λ i. a ⊗ y i) j _ e, kept_pair y j _ e) (simp ring))

  pub undone-add : (y z : ℕ → F) (j : ℕ) → undone K s κ (λ i. y i ⊕ z i) j ≡ undone K s κ y j ⊕ undone K s κ z j
  unfolding undone
  undone-add y z j = rw (undone, kept-add y z (κ.q1 j)) (K.distr _ _ _)

  pub undone-mul : (a : F) (y : ℕ → F) (j : ℕ) → undone K s κ (λ i. a ⊗ y i) j ≡ a ⊗ undone K s κ y j
  unfolding undone
  undone-mul a y j = rw (undone, kept-mul a y (κ.q1 j)) (simp ring)

  pub undone-nil : (j : ℕ) → undone K s κ (λ i. 𝟎) j ≡ 𝟎
  undone-nil j =
      ap (λ (y : ℕ → F). undone K s κ y j) (fun_ext (λ i. sym (zero-mul K 𝟎))) ∙ undone-mul 𝟎 (λ i. 𝟎) j ∙ zero-mul K _

  pub undone-comb : (x : ℕ → F) (M : Mat K) (r j : ℕ) → undone K s κ (comb K x M r) j ≡ comb K x (λ i. undone K s κ (M i)) r j
  unfolding comb sum
  undone-comb x M zero j = undone-nil j
  undone-comb x M (suc r) j =
      undone-add (comb K x M r) (λ c. x r ⊗ M r c) j ∙ ap₂ ◌⊕◌ (undone-comb x M r j) (undone-mul (x r) (M r) j)

  -- the words that land in the code are a linear space
  module _ (X : ℕ → F) where
    pub lands-linear : Linear K (Lands K s X κ)
    lands-linear =
        record {
          plus = λ y z p q. code-narrow K X s.n _ _ _ (λ j l. sym (undone-add y z j)) ((code-linear K X s.n _).plus _ _ p q);
          times = λ a y p. code-narrow K X s.n _ _ _ (λ j l. sym (undone-mul a y j)) ((code-linear K X s.n _).times a _ p);
        }

    pub lands-nil : Lands K s X κ (λ i. 𝟎)
    lands-nil = code-narrow K X s.n _ _ _ (λ j l. sym (undone-nil j)) (code-nil K X s.n _)

  module _ (ok : WellFormed K s κ) where
    pub undone-ext : (y z : ℕ → F) → ((j : ℕ) → j < total s → y j ≡ z j) → (j : ℕ) → j < s.n → undone K s κ y j ≡ undone K s κ z j
    unfolding undone
    undone-ext y z h j l = ap (λ x. κ.inverses j ⊗ x) (at (κ.q1 j) (ok.first.low j l))
      where
        moved : (i : ℕ) → i < total s → y (κ.q2 i) ≡ z (κ.q2 i)
        moved i l = h _ (ok.second.low i l)

        at : (j : ℕ) → j < s.n → kept K s κ y j ≡ kept K s κ z j
        at j l =
            below_or j (plain s) (λ b. rw (kept-plain y j b, kept-plain z j b) (moved j (omega arith)))
            (λ b. let e : j ≡ plain s + (j - plain s) = omega arith in
            rw (kept_pair y j _ e, kept_pair z j _ e, moved (plain s + 2 * (j - plain s)) (omega arith), moved (plain s + 2 * (j - plain s) + 1) (omega arith)))

    -- N places decide
    pub lands-narrow : (X : ℕ → F) → Narrow K (total s) (Lands K s X κ)
    lands-narrow X y z e = code-narrow K X s.n _ _ _ (undone-ext y z e)

    -- an unmixed place i of the word, up to its stored inverse
    pub undone-place : (y : ℕ → F) (i : ℕ) → i < total s → Unmixed K s κ i
        → undone K s κ y (κ.p1 (κ.p2 i)) ≡ κ.inverses (κ.p1 (κ.p2 i)) ⊗ y i
    unfolding undone
    undone-place y i l h =
        rw (undone, ok.first.back (κ.p2 i) (omega arith), kept-plain y (κ.p2 i) h, ok.second.back i l)

    -- where it stands in the undone word
    pub unmixed-low : (i : ℕ) → Unmixed K s κ i → κ.p1 (κ.p2 i) < s.n
    unmixed-low i h = ok.first.low_back (κ.p2 i) (omega arith)

    -- steps 14 and 15 of the specification, section 6.3, take back what 9 and 10 did
    pub redone-undone : (y : ℕ → F) (i : ℕ) → i < total s → Unmixed K s κ i → redone K s κ (undone K s κ y) (κ.p2 i) ≡ y i
    unfolding redone
    redone-undone y i l h =
        let a = κ.inverses (κ.p1 (κ.p2 i)) in
        rw (redone, undone-place y i l h, mul_comm K a (y i), mul_assoc K (y i) a (inv a), K.mul_inv a (ok.nonzero _ (unmixed-low i h))) (mul-one K _)

    pub redone-ext : (b c : ℕ → F) → ((j : ℕ) → j < s.n → b j ≡ c j) → (i : ℕ) → Unmixed K s κ i
        → redone K s κ b (κ.p2 i) ≡ redone K s κ c (κ.p2 i)
    unfolding redone
    redone-ext b c h i q = rw (redone, h _ (unmixed-low i q))

    -- an undone word that is zero comes from a word that is zero at its unmixed places
    pub undone-zero : (y : ℕ → F) → IsZero K s.n (undone K s κ y) → (i : ℕ) → i < total s → Unmixed K s κ i → y i ≡ 𝟎
    undone-zero y z i l h =
        mul-cancel K _ (y i) (ok.nonzero _ (unmixed-low i h)) (sym (undone-place y i l h) ∙ z _ (unmixed-low i h))

    -- the place of the kept word that place p, after P2 is undone, goes to
    joins : ℕ → ℕ
    joins p = pick (dec_lt p (plain s)) p (plain s + (p - plain s) / 2)

    joins-plain : (p : ℕ) → p < plain s → joins p ≡ p
    unfolding joins
    joins-plain p l = pick_yes (dec_lt p (plain s)) _ _ l

    joins_pair : (p j : ℕ) → plain s ≤ p → plain s + (p - plain s) / 2 ≡ j → joins p ≡ j
    unfolding joins
    joins_pair p j l e = pick_no (dec_lt p (plain s)) _ _ (omega arith) ∙ e

    -- THEOREM (weight). Undoing adds no weight.
    pub undone-weight : (y : ℕ → F) → wt K (undone K s κ y) s.n ≤ wt K y (total s)
    unfolding undone
    undone-weight y =
        wt-along K (total s) y (undone K s κ y) s.n (λ i. κ.p1 (joins (κ.p2 i)))
        (λ i l z. at i (κ.q1 i) (ok.first.low i l) (ok.first.there i l) z)
      where
        at : (i j : ℕ) → j < s.n → κ.p1 j ≡ i → ((p : ℕ) → p < total s → κ.p1 (joins (κ.p2 p)) ≡ i → y p ≡ 𝟎)
            → κ.inverses i ⊗ kept K s κ y j ≡ 𝟎
        at i j h e z =
            below_or j (plain s)
            (λ b. rw (kept-plain y j b, none j (omega arith) (joins-plain j b)) (mul-zero K _))
            (λ b. rw (kept_pair y j (j - plain s) (omega arith), none (plain s + 2 * (j - plain s)) (omega arith) (joins_pair _ j (omega arith) (omega arith)), none (plain s + 2 * (j - plain s) + 1) (omega arith) (joins_pair _ j (omega arith) (omega arith))) (simp ring))
          where
            none : (p : ℕ) → p < total s → joins p ≡ j → y (κ.q2 p) ≡ 𝟎
            none p l g = z (κ.q2 p) (ok.second.low p l) (rw (ok.second.there p l, g) e)
