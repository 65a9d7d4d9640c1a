-- The hasher holds the parts that were taken so far.
use Rattle.std.proofs.Common.{take, map}
use Rattle.std.specs.List.{concat}
use Rattle.hash.specs.Held.{Holds}
use Rattle.hash.proofs.mask.add_parts.Given as goal

abbrev pub invariant-loop-part : goal.invariant-loop-part
invariant-loop-part l = Holds l.hasher (concat (map (λ part. part.now) (take l.part-index l.seed)))
