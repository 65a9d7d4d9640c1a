use Rattle.std.proofs.Common.{◌≡◌, ℕ, ◌+◌, ◌*◌, ◌<◌, length, get_or}
use Rattle.gf.specs.Ten.{ten}
use Rattle.scheme.specs.Sealing.{combined}
use Rattle.opening.proofs.sums.combine.Given as goal

abbrev pub invariant-loop-i : goal.invariant-loop-i
invariant-loop-i l = (j : ℕ) → j < length l.out → get_or l.out j 0 ≡ combined ten l.factors l.i (λ i. get_or l.matrix (i * l.stride + j) 0)
