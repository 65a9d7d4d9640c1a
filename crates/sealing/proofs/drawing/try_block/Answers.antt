use Rattle.sealing.proofs.Elements.{drawn_block, fits_is}
use Rattle.sealing.proofs.drawing.try_block.Goals as goal

pub returns-clause-drawn : goal.returns-clause-drawn
returns-clause-drawn c =
    let rooms = c.args.rooms.now in
    rw c.draw.ensures.same_places
    (drawn_block rooms.parameters.set rooms.parameters.valid c.args.msg.now c.args.block.now c.requires.block_length c.split_at.ensures.front c.split_at.ensures.back
    rooms.word_length c.choose.ensures c.draw.ensures.drawn)

pub returns-clause-fits : goal.returns-clause-fits
returns-clause-fits c =
    let rooms = c.args.rooms.now in
    let drawn = drawn_block rooms.parameters.set rooms.parameters.valid c.args.msg.now c.args.block.now c.requires.block_length c.split_at.ensures.front c.split_at.ensures.back
    rooms.word_length c.choose.ensures c.draw.ensures.drawn in
    fits_is rooms.parameters.set c.args.msg.now c.args.block.now _ c.draw.new.elements drawn c.draw.ensures.all_set
