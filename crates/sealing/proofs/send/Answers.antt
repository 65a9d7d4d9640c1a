use Rattle.std.proofs.Common.{◌∙◌, ap, rules}
use Rattle.bits.specs.Bits.{packed}
use Rattle.bits.proofs.Strings.{drop-small}
use Rattle.sealing.proofs.Sent.{word-is, pack_ready, take-small}
use Rattle.sealing.proofs.send.Goals as goal

pub pack-requires : goal.pack-requires
pack-requires c =
    let rooms = c.args.rooms.now in
    let s = rooms.parameters.set in
    let els = rooms.elements.now in
    let small = c.requires.ready.small in
    let q =
    pack_ready s rooms.parameters.valid c.args.key.now c.split_at.result.0.now c.encode.new.word c.split_at.ensures.front_len (search rules) c.split_at.ensures.front_len
    (c.encode.auto.word ∙ rooms.word_length) c.encode.ensures _ _ c.add_values.new.word c.add_values.ensures
    c.args.cipher.now c.requires.field_width c.requires.cipher_length
    (rw c.split_at.ensures.front (take-small s.m s.k els small)) (rw c.split_at.ensures.back (drop-small s.m s.k els small)) in
    record { wide = q.0; narrow = q.1; small = q.2; length = q.3 }

pub returns : goal.returns
returns c =
    let rooms = c.args.rooms.now in
    let s = rooms.parameters.set in
    c.pack.ensures ∙ ap (packed s.m) (rw (c.split_at.ensures.front, c.split_at.ensures.back) at (word-is s rooms.parameters.valid c.args.key.now c.split_at.result.0.now c.encode.new.word c.split_at.ensures.front_len (search rules) c.split_at.ensures.front_len
    (c.encode.auto.word ∙ rooms.word_length) c.encode.ensures _ _ c.add_values.new.word c.add_values.ensures))
