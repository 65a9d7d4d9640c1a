-- What the whole does.
use Rattle.std.specs.Prelude.{◌≡◌, List, ℕ, Result, Ok, Err}
use Rattle.sets.specs.declared.Set.{Set}
use Rattle.scheme.specs.declared.Refusal.{Refusal}
use Rattle.scheme.specs.Setup.{made, fails, setup}

-- what `make` answers, and what the keys hold then
abbrev pub Makes : Set → List ℕ → Result ℕ Refusal → List ℕ → List ℕ → Type 0
Makes s random (Ok count) public private = setup s random ≡ made public private count
Makes s random (Err refusal) public private = setup s random ≡ fails refusal
