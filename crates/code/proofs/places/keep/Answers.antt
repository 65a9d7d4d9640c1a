-- The three cases of the definition.
use Rattle.std.proofs.Common.{rules}
use Rattle.code.specs.Stages.{passed, full, kept}
use Rattle.code.proofs.places.keep.Goals as goal

pub returns-then-value-ne0 : goal.returns-then-value-ne0
returns-then-value-ne0 c = passed (search rules)

pub returns-then-places-count : goal.returns-then-places-count
returns-then-places-count c = full (search rules)

pub returns : goal.returns
returns c = kept (search rules) (search rules)
