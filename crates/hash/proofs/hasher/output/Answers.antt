-- Eight times `put`, which `all_put` reads as the eight words.
use Rattle.hash.proofs.Bytes.{all_put}
use Rattle.hash.proofs.hasher.output.Goals as goal

pub returns : goal.returns
returns c =
    all_put c.args.s.now _ _ _ _ _ _ _ _ c.put-8.array_long c.put.ensures c.put-2.ensures c.put-3.ensures c.put-4.ensures c.put-5.ensures c.put-6.ensures c.put-7.ensures c.put-8.ensures
