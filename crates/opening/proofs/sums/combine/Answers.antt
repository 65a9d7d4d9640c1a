use Rattle.std.proofs.Common.{rules}
use Rattle.opening.proofs.Combining.{row_added}
use Rattle.opening.proofs.sums.combine.Goals as goal

pub loop-i-preserved : goal.loop-i-preserved
loop-i-preserved c = row_added _ c.args.factors.now _ c.loop-i.out c.add_multiple.new.row c.loop-i.i c.args.stride _ _ (search rules) (search rules) c.add_multiple.ensures c.loop-i.invariant
