-- The first j places hold the row.
use Rattle.std.proofs.Common.{◌≡◌, ◌+◌, ◌*◌}
use Rattle.linear.specs.Inverse.{identity_at}
use Rattle.lists.specs.Loops.{turns}
use Rattle.linear.proofs.inverse.put_identity_row.Given as goal

abbrev pub invariant-loop-j : goal.invariant-loop-j
invariant-loop-j l = l.m ≡ turns (identity_at (l.i * (l.n + l.n) + l.n) l.i) l.j l.fn.m
