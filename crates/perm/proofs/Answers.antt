-- The two calls' contracts leave one answer and one list, and say when the answer is Ok.
use mathlib.Core.Path.{◌≡◌, refl, sym, ◌∙◌}
use mathlib.Core.List.{List}
use Rattle.std.specs.Prelude.{Result, Ok, Err}
use Prim.Native.Nat.{ℕ, ◌/◌}
use lib.ListN.{length}
use Rattle.lists.specs.declared.Refused.{Refused}
use Rattle.perm.specs.Shuffle.{shuffled}
use Rattle.perm.specs.Perm.{Inverse, Perm}
use Rattle.perm.specs.Answer.{Shuffles, Shuffled, Inverted}
use Rattle.perm.proofs.Permutations.{inverse-unique}

module _ (bytes before : List ℕ) where
  pub shuffled-done : (r : Result (Unit {0}) Refused) (after : List ℕ) → Shuffles bytes before → Shuffled bytes before r after → (r ≡ Ok tt) × (after ≡ shuffled bytes (length before) (length bytes / 2))
  shuffled-done (Ok _) after f u = (refl, u.1)
  shuffled-done (Err _) after f u = absurd (u.0 f)

  pub shuffled-unique : (r r' : Result (Unit {0}) Refused) (after after' : List ℕ) → Shuffled bytes before r after → Shuffled bytes before r' after' → (r ≡ r') × (after ≡ after')
  shuffled-unique (Ok _) (Ok _) a b u v = (refl, u.1 ∙ sym v.1)
  shuffled-unique (Ok _) (Err _) a b u v = absurd (v.0 u.0)
  shuffled-unique (Err _) (Ok _) a b u v = absurd (u.0 v.0)
  shuffled-unique (Err _) (Err _) a b u v = (refl, u.1 ∙ sym v.1)

module _ (list before : List ℕ) where
  pub inverted-done : (r : Result (Unit {0}) Refused) (after : List ℕ) → length before ≡ length list → Perm list → Inverted list before r after → (r ≡ Ok tt) × Inverse list after
  inverted-done (Ok _) after l p u = (refl, u.1)
  inverted-done (Err _) after l p u = absurd (u.0 l p)

  pub inverted-unique : (r r' : Result (Unit {0}) Refused) (after after' : List ℕ) → Inverted list before r after → Inverted list before r' after' → (r ≡ r') × (after ≡ after')
  inverted-unique (Ok _) (Ok _) a b u v = (refl, inverse-unique list a b u.1 v.1)
  inverted-unique (Ok _) (Err _) a b u v = absurd (v.0 u.0 (a, u.1))
  inverted-unique (Err _) (Ok _) a b u v = absurd (u.0 v.0 (b, v.1))
  inverted-unique (Err _) (Err _) a b u v = (refl, u.1 ∙ sym v.1)
