-- What is promised holds of every good pair.
use mathlib.Core.Path.{◌≡◌, refl}
use mathlib.Core.List.{List}
use Prim.Native.Nat.{ℕ}
use Rattle.gf.specs.Field.{width}
use Rattle.sets.specs.declared.Set.{Set}
use Rattle.sets.specs.Valid.{Valid}
use Rattle.scheme.specs.Field.{field_of}
use Rattle.scheme.specs.Keys.{read}
use Rattle.demands.specs.Demands.{GoodPair, GoodPromised, Promised}
use Rattle.demands.proofs.Sound.{Sound}
use Rattle.demands.proofs.Reading.{well-sound}
use Rattle.demands.proofs.Pairs.{IsGood, good-el}
use Rattle.demands.proofs.Opening.{opens, once}
use Rattle.demands.proofs.Only.{only}

module _ (s : Set) (ok : Valid s) (e : width (field_of s) ≡ s.m) (public private : List ℕ) (P : GoodPair s public private) where
  S : Sound s (read s private)
  S = well-sound s e ok private P.private_long P.well_formed

  G : IsGood s ok (read s private) S
  G = good-el s ok (read s private) S (λ i l. rw P.same at (P.rows i l)) P.regular

  -- THEOREM (promised). What is promised, of every good pair.
  pub promised : Promised s public private
  promised =
      record {
        once = λ msg seed places msg' seed' places' T T' q. once s ok e (read s private) S G msg seed places msg' seed' places' T T' (rw P.same at q);
        exactly = record {
          opens = λ cipher msg o. opens s ok e (read s private) S G msg o.seed o.places o.triple private cipher refl (rw P.same at o.is);
          only = λ cipher msg long bytes o. only s ok e private cipher msg long bytes o public P.same;
        };
      }

pub good-promised : (s : Set) → Valid s → width (field_of s) ≡ s.m → GoodPromised s
good-promised s ok e public private P = promised s ok e public private P
