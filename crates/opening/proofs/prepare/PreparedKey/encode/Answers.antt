use Rattle.std.proofs.Common.{rules, length}
use Rattle.opening.proofs.Matrices.{rows_within}
use Rattle.opening.proofs.prepare.PreparedKey.encode.Goals as goal

pub combine-requires : goal.combine-requires
combine-requires c =
    let self = c.args.self.now in
    record { rows = λ i h. rows_within i self.key.parameters.set.k _ (length c.args.tail.now) _ c.requires.tail self.bounds.ge_long (search rules) }
