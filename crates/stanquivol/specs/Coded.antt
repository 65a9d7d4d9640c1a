-- A number stands for the answer of which the call's promise holds.
use Rattle.std.specs.Prelude.{◌≡◌, ℕ}

-- `code` gives the number of each answer
pub record Coded {A : Type 0} (code : A → ℕ) (Promise : A → Type 0) (r : ℕ) : Type 0 where
  pub answer : A
  pub number : r ≡ code answer
  pub holds : Promise answer
