-- The first k values are added.
use Rattle.std.proofs.Common.{}
use Rattle.code.specs.Stages.{Added}
use Rattle.code.proofs.values.add_values.Given as goal

abbrev pub invariant-loop-k : goal.invariant-loop-k
invariant-loop-k l = Added l.places l.values l.k l.fn.word l.word
