-- The rows before i stand.
use Rattle.std.proofs.Common.{◌≡◌, ◌+◌, ◌*◌, take}
use Rattle.linear.specs.Matrix.{entry}
use Rattle.scheme.specs.Matrices.{listed}
use Rattle.making.proofs.keys.put_right.Given as goal

abbrev pub invariant-loop-i : goal.invariant-loop-i
invariant-loop-i l = take (l.i * l.c) l.ge ≡ listed l.i l.c (λ i j. entry l.u l.matrix i (l.k + j))
