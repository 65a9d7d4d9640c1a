use Rattle.std.proofs.Common.{ap, ◌∙◌}
use mathlib.Core.Bool.{not}
use Rattle.sealing.proofs.Selections.{any-has}
use Rattle.sealing.proofs.drawing.all_set.Goals as goal

pub returns : goal.returns
returns c = ap not (c.contains.ensures.value ∙ any-has c.args.values.now 0)
