-- The two calls' contracts leave one answer and one output, and say when the answer is Ok.
use mathlib.Core.Path.{◌≡◌, refl, sym, ◌∙◌}
use mathlib.Core.List.{List}
use Rattle.std.specs.Prelude.{Result, Ok, Err}
use Prim.Native.Nat.{ℕ}
use Rattle.lists.specs.declared.Refused.{Refused}
use Rattle.bits.specs.Bits.{elements, packed}
use Rattle.bits.specs.Answer.{Unpacks, Unpacked, Packs, Packed}

module _ (m : ℕ) (bytes before : List ℕ) where
  -- for a caller whose width and lengths are right
  pub unpacked-done : (r : Result (Unit {0}) Refused) (after : List ℕ) → Unpacks m bytes before → Unpacked m bytes before r after → (r ≡ Ok tt) × (after ≡ elements m bytes)
  unpacked-done (Ok _) after f u = (refl, u.1)
  unpacked-done (Err _) after f u = absurd (u.0 f)

  pub unpacked-unique : (r r' : Result (Unit {0}) Refused) (after after' : List ℕ) → Unpacked m bytes before r after → Unpacked m bytes before r' after' → (r ≡ r') × (after ≡ after')
  unpacked-unique (Ok _) (Ok _) a b u v = (refl, u.1 ∙ sym v.1)
  unpacked-unique (Ok _) (Err _) a b u v = absurd (v.0 u.0)
  unpacked-unique (Err _) (Ok _) a b u v = absurd (u.0 v.0)
  unpacked-unique (Err _) (Err _) a b u v = (refl, u.1 ∙ sym v.1)

module _ (m : ℕ) (es before : List ℕ) where
  pub packed-done : (r : Result (Unit {0}) Refused) (after : List ℕ) → Packs m es before → Packed m es before r after → (r ≡ Ok tt) × (after ≡ packed m es)
  packed-done (Ok _) after f u = (refl, u.1)
  packed-done (Err _) after f u = absurd (u.0 f)

  pub packed-unique : (r r' : Result (Unit {0}) Refused) (after after' : List ℕ) → Packed m es before r after → Packed m es before r' after' → (r ≡ r') × (after ≡ after')
  packed-unique (Ok _) (Ok _) a b u v = (refl, u.1 ∙ sym v.1)
  packed-unique (Ok _) (Err _) a b u v = absurd (v.0 u.0)
  packed-unique (Err _) (Ok _) a b u v = absurd (u.0 v.0)
  packed-unique (Err _) (Err _) a b u v = (refl, u.1 ∙ sym v.1)
