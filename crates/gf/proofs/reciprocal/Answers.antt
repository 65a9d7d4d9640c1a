use Rattle.std.proofs.Common.{rules, arith}
use Rattle.gf.proofs.Powers.{squares-all, squares-more, squares-end}
use Rattle.gf.specs.Ten.{ten}
use Rattle.gf.proofs.reciprocal.Goals as goal

pub loop-init : goal.loop-init
loop-init c = record { small = omega arith; left = squares-all ten c.args.a }

pub loop-preserved : goal.loop-preserved
loop-preserved c = record { small = search rules; left = search squares-more }

pub returns : goal.returns
returns c = record { value = search squares-end; small = search rules }
