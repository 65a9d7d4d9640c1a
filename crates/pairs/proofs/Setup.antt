-- Every pair of setup is good: undone, the rows of the chain's matrix are those of G0, which are independent code words; row operations
-- keep both, so the rows of [I, GE] are independent code words when undone, and W is regular by that.
use mathlib.Core.Path.{◌≡◌, sym, ap, ◌∙◌}
use mathlib.Core.Logic.{◌≢◌}
use Prim.Native.Nat.{ℕ, ◌+◌, ◌-◌, ◌<◌}
use native.Mathlib.Omega.{arith}
use Rattle.theory.specs.Field.{Field}
use Rattle.theory.specs.Word.{IsZero, pow}
use Rattle.theory.specs.Code.{Points}
use Rattle.theory.specs.Matrix.{Mat, Agree, comb, Rows, Inj, UnitBelow, Steps, agreeing}
use Rattle.theory.proofs.Place.{below_or}
use Rattle.theory.proofs.Sum.{sum-ext}
use Rattle.theory.proofs.Distance.{code-narrow}
use Rattle.theory.proofs.Generator.{generator-code, generator-independent}
use Rattle.theory.proofs.Steps.{steps-rows, steps-inj}
use Rattle.theory.proofs.Reduced.{unit-entry}
use Rattle.pairs.specs.Sizes.{Sizes, total}
use Rattle.pairs.specs.Key.{Key, WellFormed, undone, Unmixed}
use Rattle.pairs.specs.Encoding.{public}
use Rattle.pairs.specs.Places.{Split}
use Rattle.pairs.specs.Good.{Lands, Good}
use Rattle.pairs.specs.Chain.{Blocks, chain, Stored}
use Rattle.pairs.proofs.Undo.{undone-ext, undone-comb, lands-linear, lands-narrow}
use Rattle.pairs.proofs.Encode.{public-low, public-high}
use Rattle.pairs.proofs.Regular.{regular}
use Rattle.pairs.proofs.Chain.{stored-well-formed, undone-chain}

module _ (K : Field) (s : Sizes) (α : K.F) (α≢ : α ≢ K.𝟎) (P : Points K (pow K α) s.n) (v : ℕ → K.F) (A : Blocks K) (R : Mat K)
    (κ : Key K) (st : Stored K s v A κ) where
  -- (G1) and the independence of the rows, before the row operations
  chain-rows : Rows K (Lands K s (pow K α) κ) s.k (chain K s α v κ.p1 R A κ.p2)
  chain-rows i l =
      code-narrow K (pow K α) s.n (s.n - s.k) _ _ (λ j h. sym (undone-chain K s v A κ st α R i j h))
      (generator-code K α (s.n - s.k) s.n i (omega arith))

  chain-inj : Inj K (λ y. IsZero K s.n (undone K s κ y)) s.k (chain K s α v κ.p1 R A κ.p2)
  unfolding comb
  chain-inj x z =
      generator-independent K α (s.n - s.k) α≢ s.k x
      (λ j l. sum-ext K _ _ s.k (λ i q. rw (undone-chain K s v A κ st α R i j (omega arith))) ∙ sym (undone-comb K s κ x (chain K s α v κ.p1 R A κ.p2) s.k j) ∙ z j (omega arith))

  -- THEOREM (setup, good). Where row operations take the chain's matrix to [I, GE], the pair is good.
  pub setup-good : (u : ℕ) (I T : ℕ → ℕ) → Split s.k (total s) (Unmixed K s κ) u I T → (M : Mat K)
      → Steps K s.k (total s) (chain K s α v κ.p1 R A κ.p2) M → UnitBelow K s.k s.k M
      → ((i j : ℕ) → i < s.k → j < total s - s.k → κ.ge i j ≡ M i (s.k + j)) → Good K s (pow K α) κ u I T
  setup-good u I T S M steps left right = record { rows = rows; regular = regular K s κ ok u I T S (pow K α) P rows inj }
    where
      ok : WellFormed K s κ
      ok = stored-well-formed K s v A κ st

      entry : Agree K s.k (total s) M (public K s.k κ.ge)
      entry i j l h =
          below_or j s.k (λ q. unit-entry K s.k s.k M left i j l q ∙ sym (public-low K s.k κ.ge i j q))
          (λ q. sym (public-high K s.k κ.ge i j q ∙ right i (j - s.k) l (omega arith) ∙ ap (M i) (omega arith)))

      reached : Steps K s.k (total s) (chain K s α v κ.p1 R A κ.p2) (public K s.k κ.ge)
      reached = agreeing entry steps

      rows : Rows K (Lands K s (pow K α) κ) s.k (public K s.k κ.ge)
      rows =
          steps-rows K s.k (total s) _ (lands-linear K s κ (pow K α)) (lands-narrow K s κ ok (pow K α)) chain-rows reached

      inj : Inj K (λ y. IsZero K s.n (undone K s κ y)) s.k (public K s.k κ.ge)
      inj =
          steps-inj K s.k (total s) (λ y. IsZero K s.n (undone K s κ y)) (λ y z e h j l. undone-ext K s κ ok z y (λ i q. sym (e i q)) j l ∙ h j l) chain-inj reached
