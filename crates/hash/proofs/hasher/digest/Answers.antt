-- One part, from the empty message.
use Rattle.hash.proofs.hasher.digest.Goals as goal

pub returns : goal.returns
returns c = c.finish.ensures.digest _ (c.update.ensures.goes_on _ c.new-hasher.ensures.holds)
