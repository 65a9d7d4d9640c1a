-- What the packing calls answer, and what the lent slices hold afterwards.
use Rattle.std.specs.Prelude.{◌≡◌, List, ℕ, ◌≤◌, Result, Ok, Err, length}
use Rattle.lists.specs.declared.Refused.{Refused}
use Rattle.bits.specs.Bits.{elements, elements_in, packed, bytes_for, Small}

-- the widths that the calls know, and the length that the whole elements take
pub record Unpacks (m : ℕ) (bytes out : List ℕ) : Type 0 where
  pub low : 8 ≤ m
  pub high : m ≤ 16
  pub long : length out ≡ elements_in m (length bytes)

-- unpacking: of the bytes, and the output before and after
abbrev pub Unpacked : ℕ → List ℕ → List ℕ → Result (Unit {0}) Refused → List ℕ → Type 0
Unpacked m bytes before (Ok done) after = Unpacks m bytes before × (after ≡ elements m bytes)
Unpacked m bytes before (Err refused) after = (Unpacks m bytes before → ⊥) × (after ≡ before)

-- the same for packing, where each element has to be below 2 ^ m
pub record Packs (m : ℕ) (es out : List ℕ) : Type 0 where
  pub low : 8 ≤ m
  pub high : m ≤ 16
  pub long : length out ≡ bytes_for m (length es)
  pub small : Small m es

-- packing: of the elements, and the output before and after
abbrev pub Packed : ℕ → List ℕ → List ℕ → Result (Unit {0}) Refused → List ℕ → Type 0
Packed m es before (Ok done) after = Packs m es before × (after ≡ packed m es)
Packed m es before (Err refused) after = (Packs m es before → ⊥) × (after ≡ before)
