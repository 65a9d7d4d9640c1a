-- The first k places are exchanged.
use Rattle.std.proofs.Common.{◌≡◌}
use Rattle.linear.specs.Matrix.{swap_at}
use Rattle.lists.specs.Loops.{turns}
use Rattle.linear.proofs.swap_runs.Given as goal

abbrev pub invariant-loop-k : goal.invariant-loop-k
invariant-loop-k l = l.m ≡ turns (swap_at l.a l.b) l.k l.fn.m
