use Rattle.std.proofs.Common.{rules}
use Rattle.gf.proofs.Rows.{row_plus-is}
use Rattle.gf.proofs.add_multiple.Goals as goal

pub returns : goal.returns
returns c = search (rules, row_plus-is)
