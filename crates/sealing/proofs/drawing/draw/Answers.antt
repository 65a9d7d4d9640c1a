use Rattle.std.proofs.Common.{◌∙◌, sym, ap, length, arith}
use mathlib.Core.Bool.{not}
use mathlib.Core.List.{List}
use Prim.Native.Nat.{ℕ}
use Rattle.std.proofs.lemmas.Slice.{between_to_end}
use Rattle.bits.specs.Bits.{elements_in}
use Rattle.scheme.specs.Lists.{has}
use Rattle.sealing.proofs.Room.{padded-holds}
use Rattle.sealing.proofs.Elements.{drawn_elements}
use Rattle.sealing.proofs.drawing.draw.Goals as goal

pub unpack-requires : goal.unpack-requires
unpack-requires c =
    let s = c.args.parameters.set in
    let v = c.args.parameters.valid in
    record {
      narrow = v.wide;
      length = c.requires.elements_length ∙ sym (padded-holds v) ∙ ap (elements_in s.m) (sym (c.pad_places.auto.out ∙ c.requires.string_length));
    }

pub returns-clause-drawn : goal.returns-clause-drawn
returns-clause-drawn c = drawn_elements c.args.parameters.set c.args.msg.now c.args.seed.now _ c.pad_places.ensures c.unpack.ensures

pub returns-clause-all_set : goal.returns-clause-all_set
returns-clause-all_set c =
    let els = c.unpack.new.out in
    c.all_set.ensures ∙ ap (λ (l : List ℕ). not (has l 0)) (between_to_end els c.args.parameters.set.k (length els) (omega arith))
