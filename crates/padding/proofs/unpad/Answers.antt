-- What is gathered of the check bytes' differences is zero exactly where they are right.
use Rattle.std.proofs.Common.{rules, refl, sym, ◌∙◌, arith, length, length-append, ◌≤◌, [], ◌++◌}
use Rattle.padding.proofs.Numbers.{few_bytes}
use Rattle.padding.proofs.Answers.{stripped_parts, message-part, checks-right, checks-wrong}
use Rattle.padding.proofs.unpad.Goals as goal

pub xor_mask_of-requires-3 : goal.xor_mask_of-requires-3
xor_mask_of-requires-3 c =
    let m = c.split_at_mut-message.result.0.now in
    let r = c.clear_last_bits.new.s in
    let e0 = c.args.e0.now in
    let rest = r ++ (e0 ++ []) in
    let small = few_bytes c.args.parameters.valid in
    let long : length m ≤ 131072 = omega (arith, small, c.split_at_mut-message.ensures.front_len) in
    let long_seed : length r ≤ 131072 = omega (arith, small, c.clear_last_bits.auto.s, c.xor_mask_of.auto.s, c.split_at_mut-front.ensures.back_len, c.requires.padded_length) in
    omega (arith, c.requires.short_e0, length-append m rest, length-append r (e0 ++ []), length-append e0 [])

pub returns-then-gathered-ne0-clause-leaves : goal.returns-then-gathered-ne0-clause-leaves
returns-then-gathered-ne0-clause-leaves c =
    let a = c.args in
    stripped_parts a.parameters.set a.p.now a.e0.now c.requires.padded_length c.args.parameters.valid.some_seed c.split_at_mut-front.ensures.front
    c.split_at_mut-front.ensures.back c.xor_mask_of.ensures (search rules) c.lost_bits-lost.ensures.value c.clear_last_bits.ensures
    c.xor_mask_of-2.ensures (search rules) c.split_at_mut-message.ensures.front c.split_at_mut-message.ensures.back c.xor_mask_of-3.ensures (search rules)

pub returns-then-gathered-ne0-clause-unpads : goal.returns-then-gathered-ne0-clause-unpads
returns-then-gathered-ne0-clause-unpads c =
    let a = c.args in (
      checks-wrong a.parameters.set a.p.now a.e0.now c.requires.padded_length c.args.parameters.valid.some_seed c.split_at_mut-front.ensures.front
          c.split_at_mut-front.ensures.back c.xor_mask_of.ensures (search rules) c.lost_bits-lost.ensures.value c.clear_last_bits.ensures
          c.xor_mask_of-2.ensures (search rules) c.split_at_mut-message.ensures.front c.split_at_mut-message.ensures.back c.xor_mask_of-3.ensures (search rules)
          (λ z. c.if-gathered-ne0.true (c.gathered.ensures ∙ z)),
      refl,
    )

pub returns : goal.returns
returns c =
    let a = c.args in
    record {
      unpads = (
        checks-right a.parameters.set a.p.now a.e0.now c.requires.padded_length c.args.parameters.valid.some_seed c.split_at_mut-front.ensures.front
            c.split_at_mut-front.ensures.back c.xor_mask_of.ensures (search rules) c.lost_bits-lost.ensures.value c.clear_last_bits.ensures
            c.xor_mask_of-2.ensures (search rules) c.split_at_mut-message.ensures.front c.split_at_mut-message.ensures.back c.xor_mask_of-3.ensures (search rules)
            (sym c.gathered.ensures ∙ c.if-gathered-ne0.false),
        c.copy_from_slice.ensures.after ∙ message-part a.parameters.set a.p.now a.e0.now c.requires.padded_length c.args.parameters.valid.some_seed c.split_at_mut-front.ensures.front
            c.split_at_mut-front.ensures.back c.xor_mask_of.ensures (search rules) c.lost_bits-lost.ensures.value c.clear_last_bits.ensures
            c.xor_mask_of-2.ensures (search rules) c.split_at_mut-message.ensures.front c.split_at_mut-message.ensures.back c.xor_mask_of-3.ensures (search rules),
      );
      leaves = stripped_parts a.parameters.set a.p.now a.e0.now c.requires.padded_length c.args.parameters.valid.some_seed c.split_at_mut-front.ensures.front
          c.split_at_mut-front.ensures.back c.xor_mask_of.ensures (search rules) c.lost_bits-lost.ensures.value c.clear_last_bits.ensures
          c.xor_mask_of-2.ensures (search rules) c.split_at_mut-message.ensures.front c.split_at_mut-message.ensures.back c.xor_mask_of-3.ensures (search rules);
    }
