-- The number of a call's answer, whatever the call gives where it is done.
use Rattle.std.specs.Prelude.{ℕ, Result, Ok, Err}
use Rattle.scheme.specs.Answers.{number_of}
use Rattle.scheme.specs.declared.Refusal.{Refusal}

-- 0 where the call is done, else the number of its refusal
abbrev pub number_of_answer : {A : Type 0} → Result A Refusal → ℕ
number_of_answer (Ok value) = 0
number_of_answer (Err refusal) = number_of refusal
