-- The non-zero ones of the first i elements stand.
use Rattle.std.proofs.Common.{drop}
use Rattle.scheme.specs.Setup.{drawn}
use Rattle.making.proofs.Drawn.{Keeping}
use Rattle.making.proofs.random.Random.keep_non_zero.Given as goal

abbrev pub invariant-loop-i : goal.invariant-loop-i
invariant-loop-i l = Keeping (drop l.from (drawn l.self.parameters.set l.self.bytes.now)) l.i l.found l.kept
