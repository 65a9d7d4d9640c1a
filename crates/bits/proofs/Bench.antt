-- Cases of packing, proved by computing the definitions.
use mathlib.Core.Path.{◌≡◌, refl}
use mathlib.Core.List.{[], ◌∷◌}
use Prim.Native.Nat.{ℕ}
use Rattle.bits.specs.Bits.{bits_of, bits, value, grouped, elements, packed}

-- bytes FF C0 01 give 1023, 0
pub two-elements : elements 10 (0xff ∷ 0xc0 ∷ 0x01 ∷ []) ≡ 1023 ∷ 0 ∷ []
unfolding elements grouped value bits bits_of
two-elements = refl

-- those give back FF C0 00
pub two_back : packed 10 (1023 ∷ 0 ∷ []) ≡ 0xff ∷ 0xc0 ∷ 0x00 ∷ []
unfolding packed grouped value bits bits_of
two_back = refl

-- elements 1, 2 give 00 40 20
pub one-two : packed 10 (1 ∷ 2 ∷ []) ≡ 0x00 ∷ 0x40 ∷ 0x20 ∷ []
unfolding packed grouped value bits bits_of
one-two = refl

-- no bytes give no elements
pub no_bytes : elements 10 [] ≡ []
unfolding elements grouped value bits bits_of
no_bytes = refl

-- one byte gives none
pub one_byte : (b : ℕ) → elements 10 (b ∷ []) ≡ []
unfolding elements grouped value bits bits_of
one_byte b = refl
