use Rattle.std.proofs.Common.{refl}
use Rattle.opening.proofs.Permuting.{inverse_found}
use Rattle.opening.proofs.prepare.invert_list.Goals as goal

pub returns-then-invert_numbers-clause-inverse : goal.returns-then-invert_numbers-clause-inverse
returns-then-invert_numbers-clause-inverse c =
    inverse_found _ c.invert_numbers.new.q _ c.invert_numbers.result c.invert_numbers.ensures c.if-invert_numbers.true refl
