-- The k + t elements of a padded string are its bytes without their lost bits.
use mathlib.Core.Path.{◌≡◌, sym, ap, ◌∙◌}
use mathlib.Core.List.{List}
use Prim.Native.Nat.{ℕ, ◌+◌, ◌-◌, ◌*◌, ◌<◌}
use native.Mathlib.Omega.{arith}
use native.Mathlib.Decide.{ℕ_discrete}
use lib.Seq.{ext_get_or}
use lib.ListN.{length, get_or}
use Rattle.bits.specs.Bits.{elements, elements_in, packed, bytes_for, Small}
use Rattle.bits.proofs.Packing.{length-elements, length-packed, elements_in-bytes_for, elements-small, packed-small, elements-packed, byte-back, byte_last}
use Rattle.sets.specs.declared.Set.{Set}
use Rattle.sets.specs.Valid.{Valid}
use Rattle.scheme.specs.Padding.{lost_bits, cleared}
use Rattle.padding.proofs.Cleared.{length-cleared, cleared-last, cleared-other}
use Rattle.padding.proofs.Numbers.{few-lost}

module _ (s : Set) (ok : Valid s) where
  module _ (p : List ℕ) (small : Small 8 p) (long : length p ≡ s.k1 + s.k2 + s.k3) where
    pub count : elements_in s.m (length p) ≡ s.k + s.t
    count = rw (long, ok.padded) (elements_in-bytes_for s.m (s.k + s.t) ok.narrow)

    pub length-triple : length (elements s.m p) ≡ s.k + s.t
    length-triple = length-elements s.m p ∙ count

    pub packed-cleared : packed s.m (elements s.m p) ≡ cleared (lost_bits s) p
    packed-cleared =
        ext_get_or 0 (packed s.m (elements s.m p)) (cleared (lost_bits s) p) lengths
        (λ i h. at i (omega (arith, lengths, length-cleared (lost_bits s) p)) (ℕ_discrete (i + 1) (length p)))
      where
        lengths : length (packed s.m (elements s.m p)) ≡ length (cleared (lost_bits s) p)
        lengths =
            length-packed s.m (elements s.m p) ∙ ap (bytes_for s.m) length-triple ∙ sym ok.padded ∙ sym long ∙ sym (length-cleared (lost_bits s) p)

        bits : s.m * (s.k + s.t) + lost_bits s ≡ 8 * length p
        bits = omega (arith, ok.padded)

        at : (i : ℕ) → i < length p → Dec (i + 1 ≡ length p) → get_or (packed s.m (elements s.m p)) i 0 ≡ get_or (cleared (lost_bits s) p) i 0
        at i h (yes e) =
            let q : lost_bits s < 8 = few-lost ok in
            byte_last s.m p small i (8 - lost_bits s) (lost_bits s) (omega arith) (rw count (omega (arith, bits)))
            ∙ sym (cleared-last (lost_bits s) p i e)
        at i h (no d) =
            let q : lost_bits s < 8 = few-lost ok in
            byte-back s.m p small i (rw count (omega (arith, bits))) ∙ sym (cleared-other (lost_bits s) p i d h)

    pub elements-cleared : elements s.m (cleared (lost_bits s) p) ≡ elements s.m p
    elements-cleared =
        ap (elements s.m) (sym packed-cleared) ∙ elements-packed s.m ok.narrow (elements s.m p) (elements-small s.m p)

  -- and k + t elements give a string whose lost bits are zero
  module _ (es : List ℕ) (small : Small s.m es) (long : length es ≡ s.k + s.t) where
    pub length-string : length (packed s.m es) ≡ s.k1 + s.k2 + s.k3
    length-string = length-packed s.m es ∙ ap (bytes_for s.m) long ∙ sym ok.padded

    pub cleared-packed : cleared (lost_bits s) (packed s.m es) ≡ packed s.m es
    cleared-packed =
        sym (packed-cleared (packed s.m es) (packed-small s.m es) length-string) ∙ ap (packed s.m) (elements-packed s.m ok.narrow es small)
