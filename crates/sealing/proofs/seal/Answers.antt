use Rattle.sealing.proofs.Sealing.{found-ready, found-sealed}
use Rattle.sealing.proofs.seal.Goals as goal

pub send-requires-clause-ready : goal.send-requires-clause-ready
send-requires-clause-ready c =
    let a = c.args in
    rw (c.find-found.ensures.same_set, c.cut-rooms.ensures.same_set)
    (found-ready a.parameters.set a.parameters.valid a.random.now a.msg.now _ _ c.in_ok-b.b c.find-found.result c.in_ok-b.was
    (rw c.cut-rooms.ensures.same_set at c.find-found.ensures.finds))

pub returns : goal.returns
returns c =
    let a = c.args in
    found-sealed a.parameters.set a.parameters.valid a.random.now a.msg.now _ _ c.in_ok-b.b c.find-found.result c.in_ok-b.was
    (rw c.cut-rooms.ensures.same_set at c.find-found.ensures.finds) a.key.now c.send.new.cipher
    (rw (c.find-found.ensures.same_set, c.cut-rooms.ensures.same_set) at c.send.ensures)
