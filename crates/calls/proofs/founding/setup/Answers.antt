-- Each first check is a case of the definition.
use Rattle.calls.proofs.Rows.{no_set, the_set, set_serves}
use Rattle.calls.proofs.SetupLaws.{unknown-set, wrong-length, checked}
use Rattle.calls.proofs.founding.setup.Goals as goal

pub returns-in_default : goal.returns-in_default
returns-in_default c = search (unknown-set, no_set)

pub returns-then-not-right_lengths : goal.returns-then-not-right_lengths
returns-then-not-right_lengths c = search (wrong-length, the_set)

pub make_pair-requires-clause-field : goal.make_pair-requires-clause-field
make_pair-requires-clause-field c = (set_serves c.args.byte c.find.result c.find.ensures.named c.in-Some.parameters c.in-Some.is).field

pub make_pair-requires-clause-byte : goal.make_pair-requires-clause-byte
make_pair-requires-clause-byte c = (set_serves c.args.byte c.find.result c.find.ensures.named c.in-Some.parameters c.in-Some.is).byte

pub returns : goal.returns
returns c = search (checked, the_set)
