use Rattle.making.proofs.entries.Entries.permuted.Goals as goal

pub returns : goal.returns
returns c = let e = c.args.self.now in rw (← e.first_is) c.scaled.ensures
