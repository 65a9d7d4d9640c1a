-- One ciphertext of a good pair is that of one vector and one error: words of [I, GE] are far apart.
use mathlib.Core.Path.{◌≡◌, sym, ◌∙◌}
use Prim.Native.Nat.{ℕ, ◌≤◌, ◌<◌}
use native.Mathlib.Omega.{arith}
use Rattle.theory.specs.Field.{Field}
use Rattle.theory.specs.Word.{wt}
use Rattle.theory.specs.Code.{Points}
use Rattle.theory.proofs.Field.{ring, add-self, eq-of-add}
use Rattle.theory.proofs.Weight.{wt-mono, wt-add}
use Rattle.pairs.specs.Sizes.{Sizes, total}
use Rattle.pairs.specs.Key.{Key, WellFormed, Unmixed}
use Rattle.pairs.specs.Encoding.{encoded}
use Rattle.pairs.specs.Places.{Split}
use Rattle.pairs.specs.Good.{Good}
use Rattle.pairs.proofs.Encode.{encoded-ext, encoded-add}
use Rattle.pairs.proofs.Good.{far}

module _ (K : Field) (s : Sizes) (X : ℕ → K.F) (P : Points K X s.n) (κ : Key K) (ok : WellFormed K s κ) (u : ℕ) (I T : ℕ → ℕ)
    (S : Split s.k (total s) (Unmixed K s κ) u I T) (G : Good K s X κ u I T) where
  open K use {F, 𝟎, add as ◌⊕◌}

  infixl 65 ◌⊕◌
  -- the word of a vector
  abbrev word : (ℕ → F) → ℕ → F
  word = encoded K s.k κ.ge

  -- THEOREM (triples, once). One word is that of one vector and one error of weight at most t.
  pub triples-once : (x y e f : ℕ → F) → wt K e (total s) ≤ s.t → wt K f (total s) ≤ s.t
      → ((j : ℕ) → j < total s → word x j ⊕ e j ≡ word y j ⊕ f j)
      → ((i : ℕ) → i < s.k → x i ≡ y i) × ((j : ℕ) → j < total s → e j ≡ f j)
  triples-once x y e f we wf h = (
    same,
    λ j l. eq-of-add K _ _ (sym (apart j l) ∙ rw (encoded-ext K s.k κ.ge x y same j) (add-self K _)),
  )
    where
      apart : (j : ℕ) → j < total s → word x j ⊕ word y j ≡ e j ⊕ f j
      apart j l = eq-of-add K _ _ (group ∙ rw (h j l) (add-self K _))
        where
          group : word x j ⊕ word y j ⊕ (e j ⊕ f j) ≡ word x j ⊕ e j ⊕ (word y j ⊕ f j)
          group = simp ring

      same : (i : ℕ) → i < s.k → x i ≡ y i
      same i l =
          eq-of-add K (x i) (y i)
          (far K s X P κ ok u I T S G (λ i. x i ⊕ y i) (omega (arith, wt-mono K (λ j. e j ⊕ f j) (word (λ i. x i ⊕ y i)) (total s) (λ j q z. encoded-add K s.k κ.ge x y j ∙ apart j q ∙ z), wt-add K e f (total s))) i l)
