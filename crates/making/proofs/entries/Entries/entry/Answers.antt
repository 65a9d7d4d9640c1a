use Rattle.std.proofs.Common.{◌∙◌}
use Rattle.making.proofs.Filled.{chain_left, chain_right}
use Rattle.making.proofs.entries.Entries.entry.Goals as goal

pub returns-then-c-d : goal.returns-then-c-d
returns-then-c-d c = let e = c.args.self.now in c.permuted.ensures ∙ chain_left e.random.parameters.set e.random.bytes.now e.blocks.now e.second.now c.args.i c.args.j c.if-c-d.true

pub returns : goal.returns
returns c = let e = c.args.self.now in c.mixed.ensures ∙ chain_right e.random.parameters.set e.random.bytes.now e.blocks.now e.second.now c.args.i c.args.j c.if-c-d.false
