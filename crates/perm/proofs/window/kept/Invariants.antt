-- Each place passed still stands in its slot.
use Rattle.std.proofs.Common.{◌≡◌, ℕ, ◌<◌, get_or}
use Rattle.perm.specs.Window.{slot_of}
use Rattle.perm.proofs.window.kept.Given as goal

abbrev pub invariant-loop-i : goal.invariant-loop-i
invariant-loop-i l = (k : ℕ) → k < l.i → slot_of l.b (get_or l.p k 0) < 4096 → get_or l.q (slot_of l.b (get_or l.p k 0)) 0 ≡ k
