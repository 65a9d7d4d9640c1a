-- Before each turn the byte and the bit are the place of the next element, and the first i elements are written. All places lie in the slice, so the byte's number does not wrap.
use Rattle.std.proofs.Common.{◌≡◌, ℕ, ◌+◌, ◌*◌, ◌<◌, get_or}
use Rattle.bits.specs.Bits.{bits_at}
use Rattle.bits.proofs.reading.unpack_at.Given as goal

abbrev pub invariant-loop-i : goal.invariant-loop-i
invariant-loop-i l = (l.bit < 8) × (8 * l.byte + l.bit ≡ l.place + l.m * l.i) × ((k : ℕ) → k < l.i → get_or l.out k 0 ≡ bits_at l.m l.s (l.place + l.m * k))
