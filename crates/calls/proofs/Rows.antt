-- What the calls ask of a set beside `Valid`: one test, computed for each row of the table.
use mathlib.Core.Path.{◌≡◌, refl, sym}
use mathlib.Core.Bool.{Bool, ◌&&◌, true, false}
use mathlib.Core.List.{List, [], ◌∷◌}
use Prim.Native.Nat.{ℕ, ◌+◌, ◌*◌}
use lib.Dec.{eqb, leb, ltb}
use borrow.Author.Tests.{eqb-true, leb-true, ltb-true}
use native.Mathlib.Omega.{arith}
use native.Mathlib.Decide.{ℕ_discrete}
use Rattle.gf.specs.Field.{width}
use Rattle.sets.specs.declared.Set.{Set}
use Rattle.std.specs.Prelude.{Option, Some, None, option_map, Result, Ok, Err, IfOk}
use Rattle.sets.specs.declared.ParameterSet.{ParameterSet}
use Rattle.sets.specs.Table.{set6, set1, set_of}
use Rattle.sets.specs.Valid.{Valid}
use Rattle.sets.proofs.Valid.{known, of-0x16, of-0x11, of_none}
use Rattle.scheme.specs.Field.{field_of}
use Rattle.opening.specs.Area.{open_room}
use Rattle.scheme.specs.declared.Refusal.{Refusal}
use Rattle.calls.specs.Given.{Serves, OpenServes, NamesSet}

-- two tests that hold together
pub both : (a b : Bool) → a && b ≡ true → (a ≡ true) × (b ≡ true)
both true b h = (refl, h)
both false b h = absurd (let z : ◌≡◌ {A = ℕ} 0 1 = cc in omega arith)

tests : Set → Bool
tests s =
    eqb s.m (width (field_of s)) && (ltb s.byte 256 && (ltb 0 s.block && (leb (2 * s.t) 1024 && (leb (s.k1 + s.k2 + s.k3) 2048 && leb (open_room s) s.work))))

passed : (s : Set) → Valid s → tests s ≡ true → OpenServes s
unfolding tests
passed s v h =
    let (a, p) = both (eqb s.m (width (field_of s))) _ h in
    let (b, q) = both (ltb s.byte 256) _ p in
    let (c, r) = both (ltb 0 s.block) _ q in
    let (d, x) = both (leb (2 * s.t) 1024) _ r in
    let (e, f) = both (leb (s.k1 + s.k2 + s.k3) 2048) _ x in
    record {
      serves = record {
        valid = v;
        field = eqb-true _ _ a;
        byte = ltb-true _ _ b;
        some_block = ltb-true _ _ c;
        places_fit = leb-true _ _ d;
        padded_fit = leb-true _ _ e;
      };
      room = leb-true _ _ f;
    }

pub open-serves : (byte : ℕ) (s : Set) → set_of byte ≡ Some s → OpenServes s
unfolding tests
open-serves byte s e = passed s (known byte s e).valid (go (ℕ_discrete byte 0x16) (ℕ_discrete byte 0x11))
  where
    go : Dec (byte ≡ 0x16) → Dec (byte ≡ 0x11) → tests s ≡ true
    go (yes q) d = let same : s ≡ set6 = cc (of-0x16 byte set6 q refl) in rw same
    go (no n) (yes q) = let same : s ≡ set1 = cc (of-0x11 byte set1 n q refl) in rw same
    go (no n) (no o) = absurd (let z : ◌≡◌ {A = ℕ} 0 1 = cc (of_none byte n o) in omega arith)

pub serves : (byte : ℕ) (s : Set) → set_of byte ≡ Some s → Serves s
serves byte s e = (open-serves byte s e).serves

-- ---- what `find` answers
module _ (byte : ℕ) (r : Option ParameterSet) (is : option_map (λ (p : ParameterSet). p.set) r ≡ set_of byte) where
  pub no_set : r ≡ None → set_of byte ≡ None
  no_set e = sym (rw e at is)

  module _ (p : ParameterSet) (e : r ≡ Some p) where
    pub the_set : set_of byte ≡ Some p.set
    the_set = sym (rw e at is)

    pub set_serves : Serves p.set
    set_serves = serves byte p.set the_set

-- a set that a key names serves
pub named_serves : (key : List ℕ) (r : Result ParameterSet Refusal) → IfOk r (λ (p : ParameterSet). NamesSet key p.set) → IfOk r (λ (p : ParameterSet). OpenServes p.set)
named_serves [] (Ok p) h = absurd h
named_serves (byte ∷ key) (Ok p) h = open-serves byte p.set h
named_serves key (Err e) h = tt
