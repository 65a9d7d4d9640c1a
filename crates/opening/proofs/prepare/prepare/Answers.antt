use Rattle.std.proofs.Common.{rules}
use Rattle.opening.proofs.Keyed.{bounds_of}
use Rattle.opening.proofs.prepare.prepare.Goals as goal

pub invariant_of-result-clause-bounds : goal.invariant_of-result-clause-bounds
invariant_of-result-clause-bounds c =
    bounds_of c.args.key.now _ _ _ _ _ c.in_ok-judge.ensures.formed c.unpack_ge.ensures c.in_ok-judge.ensures.first c.in_ok-judge.ensures.second (search rules) c.list_plain.ensures
