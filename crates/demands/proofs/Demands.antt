-- All that is promised of key pairs, of every valid set whose elements are the field's; and so of every set of the table.
use mathlib.Core.Path.{◌≡◌, refl, ap, ◌∙◌}
use Prim.Native.Nat.{ℕ}
use Rattle.gf.specs.Field.{width}
use Rattle.sets.specs.declared.Set.{Set}
use Rattle.std.specs.Prelude.{Some}
use Rattle.sets.specs.Table.{set_of, set6, set1}
use Rattle.sets.specs.Valid.{Valid}
use Rattle.sets.proofs.Valid.{Fit, known}
use Rattle.scheme.specs.Field.{field_of}
use Rattle.demands.specs.Demands.{Demands}
use Rattle.demands.proofs.Known.{known-width}
use Rattle.demands.proofs.Finding.{at_most_one}
use Rattle.demands.proofs.Setup.{setup-pairs}
use Rattle.demands.proofs.Promised.{good-promised}
use Rattle.demands.proofs.Calls.{open-all, seal-opens}
use Rattle.demands.proofs.Wrapping.{wrap-opens}
use Rattle.demands.proofs.Choosing.{seal-chooses, wrap-chooses}

pub demands : (s : Set) → Valid s → width (field_of s) ≡ s.m → set_of s.byte ≡ Some s → Demands s
demands s ok e named =
    record {
      at_most_one = at_most_one s ok e;
      setup_good = setup-pairs s ok e;
      good_promised = good-promised s ok e;
      demand3 = λ public private O. good-promised s ok e public private (setup-pairs s ok e public private O);
      open_answers = open-all s ok e named;
      seal_opens = seal-opens s ok e named;
      wrap_opens = wrap-opens s ok e named;
      seal_chooses = seal-chooses s named;
      wrap_chooses = wrap-chooses s named;
    }

-- THEOREM. All of it, of every set that a set byte names.
pub known-demands : (byte : ℕ) (s : Set) → set_of byte ≡ Some s → Demands s
known-demands byte s e =
    let f : Fit byte s = known byte s e in
    demands s f.valid (known-width byte s e) (ap set_of f.names ∙ e)

pub demands-6 : Demands set6
unfolding set_of
demands-6 = known-demands 0x16 set6 refl

pub demands-1 : Demands set1
unfolding set_of
demands-1 = known-demands 0x11 set1 refl
