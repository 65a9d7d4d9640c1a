use Rattle.making.proofs.Filled.{chain_matrix}
use Rattle.making.proofs.entries.Entries.reduce.Goals as goal

pub eliminate-done-requires-clause-matrix : goal.eliminate-done-requires-clause-matrix
eliminate-done-requires-clause-matrix c = chain_matrix _ _ _ _ _ c.fill.ensures
