-- A block was found or not, and the wiping follows.
use Rattle.std.proofs.Common.{rules}
use Rattle.scheme.specs.Calls as Calls
use Rattle.calls.proofs.closing.seal_message.Goals as goal

pub returns : goal.returns
unfolding Calls.after_seal
returns c = search rules
