-- The entries before j stand.
use Rattle.std.proofs.Common.{◌≡◌, ℕ, ◌<◌, get_or}
use Rattle.scheme.specs.Setup.{chain}
use Rattle.making.proofs.entries.Entries.fill_row.Given as goal

abbrev pub invariant-loop-j : goal.invariant-loop-j
invariant-loop-j l = (q : ℕ) → q < l.j → get_or l.row q 0 ≡ chain l.self.random.parameters.set l.self.random.bytes.now l.self.blocks.now l.self.second.now l.i q
