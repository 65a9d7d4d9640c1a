-- A set that a key names is of the table, and each of the table serves.
use Rattle.std.proofs.Common.{rules}
use Rattle.calls.proofs.Rows.{named_serves}
use Rattle.calls.proofs.checks.read_set.Goals as goal

pub returns-clause-serves : goal.returns-clause-serves
returns-clause-serves c = named_serves c.args.key.now c.ok_or.result (search rules)
