use Rattle.std.proofs.Common.{◌≡◌, ◌≢◌, ℕ, ◌<◌, get_or}
use Rattle.opening.proofs.prepare.PreparedKey.spread.Given as goal

abbrev pub invariant-loop-a : goal.invariant-loop-a
invariant-loop-a l = record {
  mixed : (a : ℕ) → a < l.a → get_or l.vector (get_or l.self.mixed.now a 0) 0 ≡ get_or l.solved a 0;
  others : (i : ℕ) → ((a : ℕ) → a < l.a → i ≢ get_or l.self.mixed.now a 0) → get_or l.vector i 0 ≡ get_or l.fn.vector i 0;
}
