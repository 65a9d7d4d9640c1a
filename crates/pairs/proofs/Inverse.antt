-- Permutations: both directions are alike, and no two numbers go to one.
use mathlib.Core.Path.{◌≡◌, sym, ap, ◌∙◌}
use Prim.Native.Nat.{ℕ, ◌<◌}
use Rattle.pairs.specs.Sizes.{Inverse}

pub inverse-flip : {r : ℕ} {p q : ℕ → ℕ} → Inverse r p q → Inverse r q p
inverse-flip P = record { low = P.low_back; low_back = P.low; there = P.back; back = P.there }

pub inverse-inj : {r : ℕ} {p q : ℕ → ℕ} → Inverse r p q → (i j : ℕ) → i < r → j < r → p i ≡ p j → i ≡ j
inverse-inj {r} {p} {q} P i j l h e = sym (P.there i l) ∙ ap q e ∙ P.there j h
