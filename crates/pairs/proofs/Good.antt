-- Of every good pair: undoing takes words of [I, GE] to code words and adds no weight, so these words are as far apart as code
-- words are; and the vector is read back from the code word.
use mathlib.Core.Path.{◌≡◌, sym, ◌∙◌}
use Prim.Native.Nat.{ℕ, ◌+◌, ◌≤◌, ◌<◌}
use native.Mathlib.Omega.{arith}
use Rattle.theory.specs.Field.{Field}
use Rattle.theory.specs.Word.{IsZero, wt}
use Rattle.theory.specs.Code.{Points}
use Rattle.theory.proofs.Field.{ring}
use Rattle.theory.proofs.Weight.{wt-mono}
use Rattle.theory.proofs.Distance.{distance}
use Rattle.theory.proofs.Steps.{comb-linear}
use Rattle.pairs.specs.Sizes.{Sizes, total}
use Rattle.pairs.specs.Key.{Key, WellFormed, undone, Unmixed}
use Rattle.pairs.specs.Encoding.{public, encoded}
use Rattle.pairs.specs.Places.{Split}
use Rattle.pairs.specs.Good.{InCode, Lands, Good, Vector, Finds}
use Rattle.pairs.proofs.Undo.{undone-add, undone-ext, undone-weight, undone-zero, lands-linear, lands-narrow, lands-nil, redone-undone}
use Rattle.pairs.proofs.Encode.{encoded-low, encoded-comb}
use Rattle.pairs.proofs.Solve.{decided}
use Rattle.pairs.proofs.Opening.{near-once, finds-once}

module _ (K : Field) (s : Sizes) (X : ℕ → K.F) (P : Points K X s.n) (κ : Key K) (ok : WellFormed K s κ) (u : ℕ) (I T : ℕ → ℕ)
    (S : Split s.k (total s) (Unmixed K s κ) u I T) (G : Good K s X κ u I T) where
  open K use {F, 𝟎, add as ◌⊕◌}

  infixl 65 ◌⊕◌
  -- the word of a vector
  abbrev word : (ℕ → F) → ℕ → F
  word = encoded K s.k κ.ge

  -- every word lands in the code
  pub word-lands : (x : ℕ → F) → Lands K s X κ (word x)
  word-lands x =
      lands-narrow K s κ ok X _ _ (λ j l. sym (encoded-comb K s.k κ.ge x j))
      (comb-linear K (Lands K s X κ) (lands-linear K s κ X) (lands-nil K s κ X) s.k (public K s.k κ.ge) x G.rows)

  -- THEOREM (far). Only the word of zero has a weight of at most 2t.
  pub far : (x : ℕ → F) → wt K (word x) (total s) ≤ s.t + s.t → IsZero K s.k x
  far x h =
      decided K s.k (total s) κ.ge (Unmixed K s κ) u I T S G.regular x
      (λ i l q. sym (encoded-low K s.k κ.ge x i l) ∙ none i (omega arith) q)
      (λ b l. none (T b) (S.low b l) (S.read b l))
    where
      none : (i : ℕ) → i < total s → Unmixed K s κ i → word x i ≡ 𝟎
      none =
          undone-zero K s κ ok (word x)
          (distance K X s.n P s.k _ (word-lands x) (omega (arith, undone-weight K s κ ok (word x))))

  -- the vector goes with the undone word of its own word
  pub vector-own : (x : ℕ → F) → Vector K s κ u T (undone K s κ (word x)) x
  vector-own x =
      record {
        reads = λ i l h. sym (redone-undone K s κ ok (word x) i (omega arith) h ∙ encoded-low K s.k κ.ge x i l);
        solves = λ b l. sym (redone-undone K s κ ok (word x) (T b) (S.low b l) (S.read b l));
      }

  -- y is the word of x with an error e of weight at most t
  module _ (x e y : ℕ → F) (few : wt K e (total s) ≤ s.t) (sent : (j : ℕ) → j < total s → y j ≡ word x j ⊕ e j) where
    pub received : (i : ℕ) → i < s.n → undone K s κ y i ≡ undone K s κ (word x) i ⊕ undone K s κ e i
    received i l = undone-ext K s κ ok y (λ j. word x j ⊕ e j) sent i l ∙ undone-add K s κ (word x) e i

    -- THEOREM (opens, near). The undone word is within t places of the undone word of x, a code word ..
    pub opens-near : wt K (λ i. undone K s κ y i ⊕ undone K s κ (word x) i) s.n ≤ s.t
    opens-near =
        omega (arith, undone-weight K s κ ok e, wt-mono K (undone K s κ e) (λ i. undone K s κ y i ⊕ undone K s κ (word x) i) s.n (λ i l q. rw (received i l, q) (simp ring)))

    -- THEOREM (opens, nearest). .. and of no other one.
    pub opens-nearest : (c : ℕ → F) → InCode K s X c → wt K (λ i. undone K s κ y i ⊕ c i) s.n ≤ s.t → (i : ℕ)
        → i < s.n → c i ≡ undone K s κ (word x) i
    opens-nearest c code near =
        near-once K s X P (undone K s κ y) c (undone K s κ (word x)) code (word-lands x) near opens-near

    -- THEOREM (opens). Opening finds x ..
    pub opens : Finds K s X κ u T y x
    opens = record { code = undone K s κ (word x); word = word-lands x; near = opens-near; vector = vector-own x }

    -- THEOREM (opens, once). .. and nothing else.
    pub opens-once : (x' : ℕ → F) → Finds K s X κ u T y x' → (i : ℕ) → i < s.k → x' i ≡ x i
    opens-once x' found = finds-once K s κ u I T S G.regular ok X P y x' x found opens

    -- Then recompute the word: its difference to the received one is the error
    pub opens-error : (j : ℕ) → j < total s → word x j ⊕ y j ≡ e j
    opens-error j l = rw (sent j l) (simp ring)
