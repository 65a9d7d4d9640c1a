-- The number of an answer of the low calls: packing, shuffling, inverting and hashing.
use Rattle.std.specs.Prelude.{ℕ, Result, Ok, Err}
use Rattle.lists.specs.declared.Refused.{Refused}

-- 0 when done, 2 when refused
abbrev pub number_of : Result (Unit {0}) Refused → ℕ
number_of (Ok done) = 0
number_of (Err refused) = 2
