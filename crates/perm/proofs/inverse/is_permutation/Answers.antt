use Rattle.std.proofs.Common.{below_more, rules}
use Rattle.perm.proofs.Windows.{once_perm}
use Rattle.perm.specs.Window.{Once}
use Rattle.perm.proofs.inverse.is_permutation.Goals as goal

pub loop-b-preserved : goal.loop-b-preserved
loop-b-preserved c = below_more (λ k. Once k c.args.p.now) _ c.loop-b.invariant c.if-not-once_in.ensures

pub returns : goal.returns
returns c = once_perm _ c.if-not-places.ensures _ (search rules) c.loop-b.invariant
