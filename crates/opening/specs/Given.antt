-- What a private key is that may be opened with.
use Rattle.std.specs.Prelude.{◌≡◌, ◌≢◌, true, List, [], ◌∷◌, ℕ, ◌<◌, Option, Some, None, length, get_or, drop}
use Rattle.bits.specs.Bits.{tail_zero}
use Rattle.perm.specs.Perm.{Inverse}
use Rattle.gf.specs.Field.{width}
use Rattle.sets.specs.declared.Set.{Set}
use Rattle.sets.specs.Valid.{Valid}
use Rattle.sets.specs.Table.{set_of}
use Rattle.scheme.specs.declared.Refusal.{Refusal}
use Rattle.scheme.specs.declared.Refusal.TheVariants.{UnknownSet, WrongLength}
use Rattle.scheme.specs.Field.{field_of}
use Rattle.scheme.specs.Lists.{inverse_of}
use Rattle.scheme.specs.Keys.{read, lists_end}

-- a key of a valid set's length
pub record KeyGiven (s : Set) (key : List ℕ) : Type 0 where
  pub valid : Valid s
  pub element : s.m ≡ width (field_of s)
  pub long : length key ≡ s.private

-- a key that is well formed, as a value can hold it: the inverses of its lists are named
pub record Checked (s : Set) (key : List ℕ) : Type 0 where
  pub first : Inverse (read s key).q1 (inverse_of (read s key).q1)
  pub second : Inverse (read s key).q2 (inverse_of (read s key).q2)
  pub nonzero : (i : ℕ) → i < s.n → get_or (read s key).inverses i 0 ≢ 0
  pub spare : tail_zero s.m (drop (lists_end s) key) ≡ true

-- the first check that refuses the bytes of a key: there are none, then they name no set, then another length
abbrev pub WrongIn : Option Set → ℕ → Refusal → Type 0
WrongIn None len e = e ≡ UnknownSet
WrongIn (Some s) len e = (e ≡ WrongLength) × (len ≢ s.private)

abbrev pub KeyRefused : List ℕ → Refusal → Type 0
KeyRefused [] e = e ≡ WrongLength
KeyRefused (b ∷ bytes) e = WrongIn (set_of b) (length (b ∷ bytes)) e
