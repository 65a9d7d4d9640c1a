-- Reading element after element gives the elements that stand from the reader's place on: each step drops m bits more.
use mathlib.Core.Path.{◌≡◌, refl, sym, ap}
use mathlib.Core.List.{List, ◌∷◌}
use Prim.Native.Nat.{ℕ, zero, suc, ◌+◌}
use lib.Seq.{drop-drop}
use Rattle.bits.specs.Bits.{bits, bits_at, grouped, elements_at}
use Rattle.reader.specs.Places.{past, read}
use Rattle.reader.specs.declared.Reader.{Reader}

-- one more element: the first, and the others from the place past it
pub elements_at-suc : (n m : ℕ) (bytes : List ℕ) (p : ℕ) → elements_at (suc n) m bytes p ≡ bits_at m bytes p ∷ elements_at n m bytes (p + m)
unfolding elements_at bits_at grouped
elements_at-suc n m bytes p = ap (λ (l : List ℕ). bits_at m bytes p ∷ grouped n m l) (drop-drop m p (bits 8 bytes))

pub read-elements : (n m : ℕ) (r : Reader) → read n m r ≡ elements_at n m r.bytes.now r.bit
unfolding elements_at grouped read
read-elements zero m r = refl
read-elements (suc n) m r = rw (read-elements n m (past r m)) (sym (elements_at-suc n m r.bytes.now r.bit))
