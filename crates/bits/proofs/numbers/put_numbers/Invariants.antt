-- The first i numbers are written, two bytes each.
use Rattle.std.proofs.Common.{◌≡◌, ℕ, ◌+◌, ◌*◌, ◌/◌, ◌%◌, ◌<◌, get_or}
use Rattle.bits.proofs.numbers.put_numbers.Given as goal

abbrev pub invariant-loop-i : goal.invariant-loop-i
invariant-loop-i l = ((k : ℕ) → k < l.i → get_or l.out (2 * k) 0 ≡ get_or l.s k 0 / 256 % 256) × ((k : ℕ) → k < l.i → get_or l.out (2 * k + 1) 0 ≡ get_or l.s k 0 % 256)
