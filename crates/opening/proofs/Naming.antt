-- The set that the first byte of a key names.
use mathlib.Core.Path.{◌≡◌, refl}
use mathlib.Core.List.{List, [], ◌∷◌}
use Prim.Native.Nat.{ℕ, ◌<◌}
use native.Mathlib.Omega.{arith}
use native.Mathlib.Decide.{ℕ_discrete}
use lib.ListN.{length, get_or}
use Rattle.std.specs.Prelude.{Some}
use Rattle.gf.specs.Field.{width}
use Rattle.sets.specs.declared.Set.{Set}
use Rattle.sets.specs.Table.{set6, set1, set_of}
use Rattle.sets.proofs.Valid.{of-0x16, of-0x11, of_none}
use Rattle.scheme.specs.Field.{field_of}
use Rattle.scheme.specs.declared.Refusal.{Refusal}
use Rattle.opening.specs.Given.{WrongIn, KeyRefused}

-- its elements are those of the field
pub element_of : (byte : ℕ) (s : Set) → set_of byte ≡ Some s → s.m ≡ width (field_of s)
element_of byte s e = go (ℕ_discrete byte 0x16) (ℕ_discrete byte 0x11)
  where
    go : Dec (byte ≡ 0x16) → Dec (byte ≡ 0x11) → s.m ≡ width (field_of s)
    go (yes q) d = let same : s ≡ set6 = cc (of-0x16 byte set6 q refl) in rw same refl
    go (no n) (yes q) = let same : s ≡ set1 = cc (of-0x11 byte set1 n q refl) in rw same refl
    go (no n) (no o) = absurd (let z : ◌≡◌ {A = ℕ} 0 1 = cc (of_none byte n o) in omega arith)

-- some bytes that are refused
pub key_refused : (bytes : List ℕ) (e : Refusal) → 0 < length bytes → WrongIn (set_of (get_or bytes 0 0)) (length bytes) e → KeyRefused bytes e
key_refused [] e h w = absurd (omega arith)
key_refused (b ∷ bytes) e h w = w
