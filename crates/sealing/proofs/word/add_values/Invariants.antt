-- The values from i on are added; the places rise, so none is met twice.
use Rattle.sealing.specs.Steps.{Added}
use Rattle.sealing.proofs.word.add_values.Given as goal

abbrev pub invariant-loop-i : goal.invariant-loop-i
invariant-loop-i l = Added l.places l.values l.i l.fn.word l.word
