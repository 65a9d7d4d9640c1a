-- The sets of the table: their elements are those of their field.
use mathlib.Core.Path.{◌≡◌, refl}
use Prim.Native.Nat.{ℕ}
use native.Mathlib.Omega.{arith}
use native.Mathlib.Decide.{ℕ_discrete}
use Rattle.gf.specs.Field.{width}
use Rattle.sets.specs.declared.Set.{Set}
use Rattle.std.specs.Prelude.{Some}
use Rattle.sets.specs.Table.{set6, set1, set_of}
use Rattle.sets.proofs.Valid.{of-0x16, of-0x11, of_none}
use Rattle.scheme.specs.Field.{field_of}

pub known-width : (byte : ℕ) (s : Set) → set_of byte ≡ Some s → width (field_of s) ≡ s.m
known-width byte s e = go (ℕ_discrete byte 0x16) (ℕ_discrete byte 0x11)
  where
    go : Dec (byte ≡ 0x16) → Dec (byte ≡ 0x11) → width (field_of s) ≡ s.m
    go (yes q) d = let same : s ≡ set6 = cc (of-0x16 byte set6 q refl) in rw same
    go (no n) (yes q) = let same : s ≡ set1 = cc (of-0x11 byte set1 n q refl) in rw same
    go (no n) (no o) = absurd (let z : ◌≡◌ {A = ℕ} 0 1 = cc (of_none byte n o) in omega arith)
