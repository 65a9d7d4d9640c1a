-- A part is a thousand bytes, so the message's length fits.
use Rattle.std.proofs.Common.{◌≡◌, ◌*◌}
use Rattle.hash_vectors.proofs.million.Given as goal

abbrev pub invariant-loop-part : goal.invariant-loop-part
invariant-loop-part l = l.hasher.len ≡ l._part * 1000
