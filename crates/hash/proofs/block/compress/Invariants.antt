-- The first i words are loaded; and before a turn the rounds of the turns before it are done.
use Rattle.std.proofs.Common.{◌≡◌, ℕ, ◌*◌, ◌<◌, length, get_or}
use Rattle.hash.specs.Sha.{word}
use Rattle.hash.specs.Held.{At, Ring}
use Rattle.hash.proofs.block.compress.Given as goal

abbrev pub invariant-loop-i : goal.invariant-loop-i
invariant-loop-i l = (length l.w ≡ 16) × ((j : ℕ) → j < l.i → get_or l.w j 0 ≡ word l.b (8 * j))

abbrev pub invariant-loop-turn : goal.invariant-loop-turn
invariant-loop-turn l = Ring l.b (16 * l.turn) l.w × At l.fn.s l.b (16 * l.turn) l.v
