use Rattle.opening.proofs.Keyed.{given}
use Rattle.opening.proofs.Undoing.{word_half, word_order, word_small, word_room}
use Rattle.opening.proofs.prepare.PreparedKey.receive.Goals as goal

pub decode-requires : goal.decode-requires
decode-requires c =
    let key = c.args.self.now.key in
    let s = key.parameters.set in
    record {
      half = word_half s key.bytes.now (given key) c.args.received.now c.undo.new.word c.undo.ensures;
      order = word_order s key.bytes.now (given key) c.args.received.now c.undo.new.word c.undo.ensures;
      small = word_small s key.bytes.now (given key) c.args.received.now c.undo.new.word c.undo.ensures;
      room = word_room s key.bytes.now (given key) c.args.received.now c.undo.new.word c.undo.ensures c.args.work.now c.requires.room;
    }
