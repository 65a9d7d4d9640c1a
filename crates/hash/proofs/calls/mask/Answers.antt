use Rattle.std.proofs.Common.{append-nil, arith}
use Rattle.hash.proofs.calls.mask.Goals as goal

pub returns : goal.returns
returns c =
    let seed = c.args.seed.now in
    (omega arith, omega arith, rw (append-nil seed) at c.fill_mask_of.ensures)
