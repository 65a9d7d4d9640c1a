-- What the calls answer, and the number and the count that stand for each answer.
use Rattle.std.specs.Prelude.{ℕ, ◌*◌, Result, Ok, Err}
use Rattle.scheme.specs.declared.Refusal.{Refusal}
use Rattle.scheme.specs.declared.Refusal.TheVariants.{UnknownSet, WrongLength, FewMultipliers, FewElements, NoWindow, Dependent, Malformed, Singular, ZeroValues, NotOpened, WrongSecret}

-- setup, sealing and wrapping are done, with a count, or refused
abbrev pub Answer : Type 0
Answer = Result ℕ Refusal

-- opening and unwrapping are done or refused
abbrev pub Opened : Type 0
Opened = Result (Unit {0}) Refusal

abbrev pub number_of : Refusal → ℕ
number_of UnknownSet = 1
number_of WrongLength = 2
number_of FewMultipliers = 3
number_of FewElements = 4
number_of NoWindow = 5
number_of Dependent = 6
number_of Malformed = 7
number_of Singular = 8
number_of ZeroValues = 9
number_of NotOpened = 10
number_of WrongSecret = 11

-- the count, which is 0 for a refusal
abbrev pub count_of : Answer → ℕ
count_of (Ok count) = count
count_of (Err refusal) = 0

-- what the C interface returns: 256 times the count where the call is done, and the number of a refusal
abbrev pub coded : Answer → ℕ
coded (Ok count) = 256 * count
coded (Err refusal) = number_of refusal

abbrev pub coded_opened : Opened → ℕ
coded_opened (Ok _) = 0
coded_opened (Err refusal) = number_of refusal
