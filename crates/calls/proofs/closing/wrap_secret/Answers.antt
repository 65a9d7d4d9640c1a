-- The secret is laid over zeros.
use native.Mathlib.Omega.{arith}
use Rattle.std.proofs.Common.{rules}
use Rattle.calls.proofs.SealLaws.{laid, wrapped}
use Rattle.calls.proofs.closing.wrap_secret.Goals as goal

pub returns : goal.returns
returns c =
    wrapped _ _ _ _ _ _ _ _ c.seal_message.ensures
    (laid _ _ _ _ 2048 c.requires.secret (omega (arith, c.requires.serves.padded_fit)) (search rules) c.split_at_mut-message.ensures.front)
