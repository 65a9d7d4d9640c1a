-- Whether all places still stand in their slots says whether each entry of the window stands once.
use Rattle.std.proofs.Common.{rules}
use Rattle.perm.proofs.Windows.{once_decided}
use Rattle.perm.proofs.window.once_in.Goals as goal

pub returns : goal.returns
returns c = once_decided _ _ _ (search rules) _ _ c.write_in.ensures c.kept.ensures
