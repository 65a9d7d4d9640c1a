use Rattle.std.proofs.Common.{rules}
use Rattle.bits.proofs.Packing.{elements-small}
use Rattle.opening.proofs.Answering.{spare_not, none_as, opens_err, sent-small, finished_as}
use Rattle.opening.proofs.open_prepared.Goals as goal

pub returns-then-not-tail_zero : goal.returns-then-not-tail_zero
returns-then-not-tail_zero c = spare_not c.args.prepared.now c.args.cipher.now c.tail_zero.result c.tail_zero.ensures c.if-not-tail_zero.true

pub returns-in_err-receive : goal.returns-in_err-receive
returns-in_err-receive c =
    let none = none_as c.args.prepared.now c.args.cipher.now c.unpack.new.out c.unpack.ensures c.in_err-receive.field-0.0 c.in_err-receive.ensures.none in
    opens_err _ _ _ _ c.from_residual.result (search rules) (search rules)

pub finish-requires-clause-received_small : goal.finish-requires-clause-received_small
finish-requires-clause-received_small c = rw c.unpack.ensures (elements-small _ c.args.cipher.now)

pub finish-requires-clause-sent_small : goal.finish-requires-clause-sent_small
finish-requires-clause-sent_small c =
    let key = c.args.prepared.now.key in
    sent-small key.parameters.set _ key.element _ c.find_vector.new.sent c.find_vector.ensures.vector c.find_vector.ensures.sent

pub returns : goal.returns
returns c =
    finished_as c.args.prepared.now c.args.cipher.now c.unpack.new.out c.unpack.ensures c.receive.new.word _ c.in_ok-receive.ensures.near c.find_vector.ensures.vector
    c.tail_zero.result c.tail_zero.ensures c.if-not-tail_zero.false c.finish.new.message c.finish.result c.finish.ensures.accepted c.finish.ensures.message c.finish.ensures.refused
