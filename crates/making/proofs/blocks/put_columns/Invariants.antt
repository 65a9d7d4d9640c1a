-- The columns of the first i blocks stand.
use Rattle.std.proofs.Common.{◌≡◌, ◌*◌, take}
use Rattle.gf.specs.Ten.{ten}
use Rattle.scheme.specs.Setup.{inverse_columns}
use Rattle.making.proofs.blocks.put_columns.Given as goal

abbrev pub invariant-loop-i : goal.invariant-loop-i
invariant-loop-i l = take (2 * l.i) l.columns ≡ inverse_columns ten (take (4 * l.i) l.blocks)
