-- The word of a vector: its two halves, that it is linear, and that it is the combination x·[I, GE] of the rows.
use mathlib.Core.Path.{◌≡◌, sym, ◌∙◌}
use Prim.Native.Nat.{ℕ, ◌-◌, ◌≤◌, ◌<◌}
use native.Mathlib.Omega.{arith}
use native.Mathlib.Decide.{dec_lt}
use Rattle.theory.specs.Field.{Field}
use Rattle.theory.specs.Word.{unit, sum}
use Rattle.theory.specs.Matrix.{Mat, comb}
use Rattle.theory.proofs.Field.{ring}
use Rattle.theory.proofs.Place.{pick_yes, pick_no, below_or}
use Rattle.theory.proofs.Sum.{sum-ext, sum-add, sum-unit-right}
use Rattle.pairs.specs.Encoding.{public, encoded}

module _ (K : Field) (k : ℕ) (ge : Mat K) where
  open K use {F, add as ◌⊕◌, mul as ◌⊗◌}

  infixl 65 ◌⊕◌
  infixl 70 ◌⊗◌
  pub public-low : (i j : ℕ) → j < k → public K k ge i j ≡ unit K i j
  unfolding public
  public-low i j l = pick_yes (dec_lt j k) _ _ l

  pub public-high : (i j : ℕ) → k ≤ j → public K k ge i j ≡ ge i (j - k)
  unfolding public
  public-high i j l = pick_no (dec_lt j k) _ _ (omega arith)

  pub encoded-low : (x : ℕ → F) (j : ℕ) → j < k → encoded K k ge x j ≡ x j
  unfolding encoded
  encoded-low x j l = pick_yes (dec_lt j k) _ _ l

  pub encoded-high : (x : ℕ → F) (j : ℕ) → k ≤ j → encoded K k ge x j ≡ sum K (λ i. x i ⊗ ge i (j - k)) k
  unfolding encoded
  encoded-high x j l = pick_no (dec_lt j k) _ _ (omega arith)

  pub encoded-add : (x y : ℕ → F) (j : ℕ) → encoded K k ge (λ i. x i ⊕ y i) j ≡ encoded K k ge x j ⊕ encoded K k ge y j
  encoded-add x y j =
      below_or j k (λ l. rw (encoded-low (λ i. x i ⊕ y i) j l, encoded-low x j l, encoded-low y j l))
      (λ l. rw (encoded-high (λ i. x i ⊕ y i) j l, encoded-high x j l, encoded-high y j l)
      (sum-ext K _ _ k (λ i h. simp ring) ∙ sum-add K (λ i. x i ⊗ ge i (j - k)) (λ i. y i ⊗ ge i (j - k)) k))

  pub encoded-ext : (x y : ℕ → F) → ((i : ℕ) → i < k → x i ≡ y i) → (j : ℕ) → encoded K k ge x j ≡ encoded K k ge y j
  encoded-ext x y h j =
      below_or j k (λ l. rw (encoded-low x j l, encoded-low y j l) (h j l))
      (λ l. rw (encoded-high x j l, encoded-high y j l) (sum-ext K _ _ k (λ i o. rw (h i o))))

  -- the words are the combinations of the rows of [I, GE]
  pub encoded-comb : (x : ℕ → F) (j : ℕ) → encoded K k ge x j ≡ comb K x (public K k ge) k j
  unfolding comb
  encoded-comb x j =
      below_or j k
      (λ l. encoded-low x j l ∙ sym (sum-ext K _ _ k (λ i o. rw (public-low i j l)) ∙ sum-unit-right K x k j l))
      (λ l. encoded-high x j l ∙ sum-ext K _ _ k (λ i o. rw (public-high i j l)))
