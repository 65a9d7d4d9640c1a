-- The parts are filled and masked as the standard of padding says.
use Rattle.std.proofs.Common.{rules}
use Rattle.padding.proofs.Answers.{padded_parts}
use Rattle.padding.proofs.pad.Goals as goal

pub returns : goal.returns
returns c =
    let a = c.args in
    padded_parts a.parameters.set a.msg.now a.seed.now a.e0.now c.copy_from_slice.ensures.after c.copy_from_slice-2.ensures.after (search rules)
    c.clear_last_bits.ensures c.fill_mask_of.ensures (search rules) c.xor_mask_of.ensures (search rules) c.xor_mask_of-2.ensures (search rules)
