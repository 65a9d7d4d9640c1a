-- Before each turn the place is that of the next byte, and the first j bytes are written. An element has at least eight bits, so its number is at most j.
use Rattle.std.proofs.Common.{◌≡◌, ℕ, ◌+◌, ◌*◌, ◌<◌, drop, get_or}
use Rattle.bits.specs.Bits.{bits, value}
use Rattle.bits.proofs.writing.pack.Given as goal

abbrev pub invariant-loop-j : goal.invariant-loop-j
invariant-loop-j l = (l.place.bit < l.m) × (l.m * l.place.element + l.place.bit ≡ 8 * l.j) × ((k : ℕ) → k < l.j → get_or l.out k 0 ≡ value 8 (drop (8 * k) (bits l.m l.s)))
