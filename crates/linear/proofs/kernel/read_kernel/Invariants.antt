-- The first j places hold the vector.
use Rattle.std.proofs.Common.{◌≡◌, ◌++◌, drop}
use Rattle.linear.specs.Kernel.{kernel_at}
use Rattle.lists.specs.Loops.{tab}
use Rattle.linear.proofs.kernel.read_kernel.Given as goal

abbrev pub invariant-loop-j : goal.invariant-loop-j
invariant-loop-j l = l.v ≡ tab l.j (kernel_at l.cols l.r l.m) ++ drop l.j l.fn.v
