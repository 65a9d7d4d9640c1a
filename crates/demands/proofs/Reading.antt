-- What is read from a well-formed private key of the set's length is sound: its lists are as long as they are to be, its elements are
-- of the field.
use mathlib.Core.Path.{◌≡◌, sym, subst}
use mathlib.Core.List.{List}
use Prim.Native.Nat.{ℕ, ◌+◌, ◌*◌, ◌^◌, ◌≤◌, ◌<◌}
use native.Mathlib.Omega.{arith}
use lib.Seq.{length-take-le}
use lib.ListN.{length, take, drop, length-drop}
use Rattle.gf.specs.Field.{width, size, order}
use Rattle.bits.specs.Numbers.{numbers16}
use Rattle.bits.proofs.Packing.{elements_at-small}
use Rattle.bits.proofs.Sixteen.{length-numbers16}
use Rattle.sets.specs.declared.Set.{Set}
use Rattle.sets.specs.Valid.{Valid}
use Rattle.scheme.specs.Field.{field_of}
use Rattle.scheme.specs.Keys.{read, WellFormed}
use Rattle.demands.proofs.Sound.{Sound}

-- the elements of the set are the field's
module _ (s : Set) (e : width (field_of s) ≡ s.m) where
  pub within : (x : ℕ) → x < 2 ^ s.m → x < size (field_of s)
  within x h = subst (λ (m : ℕ). x < 2 ^ m) (sym e) h

  pub outside : (x : ℕ) → x < size (field_of s) → x < 2 ^ s.m
  outside x h = subst (λ (m : ℕ). x < 2 ^ m) e h

  pub points : Valid s → s.n ≤ order (field_of s)
  points ok = let h : s.n < size (field_of s) = within s.n ok.points in omega arith

  module _ (ok : Valid s) (key : List ℕ) (long : length key ≡ s.private) where
    list-long : (a r : ℕ) → a + 2 * r ≤ length key → length (take r (numbers16 (drop a key))) ≡ r
    list-long a r h = length-take-le r (numbers16 (drop a key)) (omega (arith, length-numbers16 (drop a key), length-drop a key))

    pub well-sound : WellFormed s key → Sound s (read s key)
    unfolding read
    well-sound w =
        record {
          long1 = list-long 1 s.n (omega (arith, ok.private_is));
          long2 = list-long (1 + 2 * s.n) (s.n + s.w) (omega (arith, ok.private_is));
          first = w.first;
          second = w.second;
          nonzero = w.nonzero;
          small = λ i. within _ (elements_at-small _ _ _ _ i);
          elements = λ i. within _ (elements_at-small _ _ _ _ i);
        }
