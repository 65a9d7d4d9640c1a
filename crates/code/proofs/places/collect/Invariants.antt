-- What is held is right for the places below p.
use Rattle.std.proofs.Common.{}
use Rattle.code.specs.Stages.{Collected}
use Rattle.code.proofs.places.collect.Given as goal

abbrev pub invariant-loop-p : goal.invariant-loop-p
invariant-loop-p l = Collected l.values l.p l.places l.count
