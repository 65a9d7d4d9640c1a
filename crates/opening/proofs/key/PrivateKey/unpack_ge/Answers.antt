use Rattle.std.proofs.Common.{◌∙◌}
use Rattle.opening.proofs.Reading.{ge_is}
use Rattle.opening.proofs.key.PrivateKey.unpack_ge.Goals as goal

pub returns : goal.returns
returns c = let self = c.args.self.now in c.unpack_at.ensures ∙ ge_is self.parameters.set self.bytes.now _ _ c.requires c.lists_end.ensures
