-- What the functions behind the first checks are given. Every set of the table serves (proofs/Rows).
use Rattle.std.specs.Prelude.{◌≡◌, List, [], ◌∷◌, ℕ, ◌+◌, ◌*◌, ◌≤◌, ◌<◌, Some, None}
use Rattle.gf.specs.Field.{width}
use Rattle.sets.specs.declared.Set.{Set}
use Rattle.sets.specs.Valid.{Valid}
use Rattle.sets.specs.Table.{set_of}
use Rattle.scheme.specs.declared.Refusal.{Refusal}
use Rattle.scheme.specs.declared.Refusal.TheVariants.{UnknownSet, WrongLength}
use Rattle.scheme.specs.Field.{field_of}
use Rattle.opening.specs.Area.{open_room}

-- the numbers of the set are such as the calls go by
pub record Serves (s : Set) : Type 0 where
  pub valid : Valid s
  pub field : s.m ≡ width (field_of s)
  pub byte : s.byte < 256
  pub some_block : 0 < s.block
  pub places_fit : 2 * s.t ≤ 1024
  pub padded_fit : s.k1 + s.k2 + s.k3 ≤ 2048

-- that, and the work area has the room that opening works in
pub record OpenServes (s : Set) : Type 0 where
  pub serves : Serves s
  pub room : open_room s ≤ s.work

-- the key's first byte names the set
abbrev pub NamesSet : List ℕ → Set → Type 0
NamesSet [] s = ⊥
NamesSet (byte ∷ key) s = set_of byte ≡ Some s

-- the key has no first byte, or one that names none
abbrev pub NamesNone : List ℕ → Refusal → Type 0
NamesNone [] e = e ≡ WrongLength
NamesNone (byte ∷ key) e = (set_of byte ≡ None) × (e ≡ UnknownSet)
