use Rattle.std.proofs.Common.{rules}
use Rattle.opening.proofs.Matrices.{spread_there, spread_others}
use Rattle.opening.proofs.prepare.PreparedKey.spread.Goals as goal

pub loop-a-preserved : goal.loop-a-preserved
loop-a-preserved c =
    let p = c.args.self.now.mixed.now in
    let v = c.args.solved.now in
    let l = c.loop-a in record {
      mixed = spread_there p v l.vector l.a c.args.self.now.bounds.mixed_apart (search rules) l.invariant.mixed (search rules);
      others = spread_others p v l.vector l.a c.args.self.now.bounds.mixed_apart (search rules) _ l.invariant.others;
    }
