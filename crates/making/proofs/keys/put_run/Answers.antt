use Rattle.scheme.specs.Setup.{right_part}
use Rattle.making.proofs.keys.put_run.Goals as goal

pub returns : goal.returns
unfolding right_part
returns c = rw (c.put_columns.ensures, c.put_inverses.ensures, c.put_right.ensures)
