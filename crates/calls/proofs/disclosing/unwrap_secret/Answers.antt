-- The secret is the front of the message.
use Rattle.std.proofs.Common.{rules}
use Rattle.calls.proofs.OpenLaws.{unwrapped}
use Rattle.calls.proofs.disclosing.unwrap_secret.Goals as goal

pub returns : goal.returns
returns c = unwrapped _ _ _ _ _ _ _ _ _ c.open_message-answer.ensures (search rules) _ (search rules)
