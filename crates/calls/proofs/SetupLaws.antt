-- Setup's definition, case by case.
use mathlib.Core.Path.{◌≡◌, sym, ap, ◌∙◌}
use mathlib.Core.Bool.{Bool, true, false}
use mathlib.Core.List.{List}
use Prim.Native.Nat.{ℕ}
use lib.ListN.{length}
use Rattle.std.specs.Prelude.{Some, None, Err}
use Rattle.sets.specs.declared.Set.{Set}
use Rattle.sets.specs.Table.{set_of}
use Rattle.scheme.specs.declared.Refusal.TheVariants.{UnknownSet, WrongLength}
use Rattle.scheme.specs.Answers.{Answer}
use Rattle.scheme.specs.Setup.{setup}
use Rattle.scheme.specs.Calls.{setup_lengths, after_setup, setup_ends}
use Rattle.calls.specs.Ends.{setup_end}

module _ (byte : ℕ) (random public private work : List ℕ) where
  pub unknown-set : set_of byte ≡ None → setup_end (Err UnknownSet) public private work ≡ setup_ends byte random public private work
  unfolding setup_ends
  unknown-set e = rw e

  module _ (s : Set) (e : set_of byte ≡ Some s) (t : Bool) (is : t ≡ setup_lengths s (length random) (length public) (length private) (length work)) where
    pub wrong-length : t ≡ false → setup_end (Err WrongLength) public private work ≡ setup_ends byte random public private work
    unfolding setup_ends
    wrong-length h = rw (e, ← is, h)

    pub checked : t ≡ true → (r r₁ : Answer) (p q w : List ℕ) → r₁ ≡ r → setup_end r p q w ≡ after_setup (setup s random) public private work
        → setup_end r₁ p q w ≡ setup_ends byte random public private work
    unfolding setup_ends
    checked h r r₁ p q w same a =
        ap (λ (r : Answer). setup_end r p q w) same ∙ a ∙ sym (rw (e, sym is ∙ h))
