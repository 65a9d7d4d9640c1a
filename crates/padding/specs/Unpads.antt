-- What unpadding answers, and what it leaves in the message's slice.
use Rattle.std.specs.Prelude.{◌≡◌, List, ℕ, Result, Ok, Err}
use Rattle.sets.specs.declared.Set.{Set}
use Rattle.scheme.specs.Padding.{Checks, message_of}
use Rattle.padding.specs.declared.WrongCheck.{WrongCheck}

-- the check bytes are right and the message is there, or they are not and nothing is written
abbrev pub Unpads : Set → List ℕ → List ℕ → List ℕ → Result (Unit {0}) WrongCheck → List ℕ → Type 0
Unpads s p e0 before (Ok done) after = Checks s p e0 × (after ≡ message_of s p e0)
Unpads s p e0 before (Err wrong) after = (Checks s p e0 → ⊥) × (after ≡ before)
