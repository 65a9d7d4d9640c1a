-- The rows before i stand.
use Rattle.std.proofs.Common.{◌≡◌, ◌*◌, take}
use Rattle.scheme.specs.Matrices.{listed}
use Rattle.scheme.specs.Setup.{chain}
use Rattle.making.proofs.entries.Entries.fill.Given as goal

abbrev pub invariant-loop-i : goal.invariant-loop-i
invariant-loop-i l = take (l.i * l.u) l.matrix ≡ listed l.i l.u (chain l.self.random.parameters.set l.self.random.bytes.now l.self.blocks.now l.self.second.now)
