-- Keys are read element after element by a reader that remembers its bytes and its bit place.
use Rattle.std.specs.Prelude.{ℕ, zero, suc, ◌+◌, List, [], ◌∷◌}
use Rattle.bits.specs.Bits.{bits_at}
use Rattle.reader.specs.declared.Reader.{Reader}

-- the reader past n bits: of the same bytes, at the place n bits on
abbrev pub past : Reader → ℕ → Reader
past r n = record { bytes = r.bytes; bit = r.bit + n }

-- what is read element after element: n elements of m bits, each from the reader past the one before
unfoldable pub read : ℕ → ℕ → Reader → List ℕ
read zero m r = []
read (suc n) m r = bits_at m r.bytes.now r.bit ∷ read n m (past r m)
