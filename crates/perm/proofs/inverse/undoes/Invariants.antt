-- Each place passed is undone.
use Rattle.std.proofs.Common.{◌≡◌, ℕ, ◌<◌, get_or}
use Rattle.perm.proofs.inverse.undoes.Given as goal

abbrev pub invariant-loop-i : goal.invariant-loop-i
invariant-loop-i g l = (k : ℕ) → k < l.i → get_or l.q (get_or (g.P.Entries.list l.p) k 0) 0 ≡ k
