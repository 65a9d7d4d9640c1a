-- Laws of a mask laid over a string: it leaves only zeros where it is the string itself, and only there.
use mathlib.Core.Path.{◌≡◌, sym, ap, ◌∙◌}
use mathlib.Core.List.{List}
use Prim.Native.Nat.{ℕ, ◌<◌}
use native.Mathlib.Omega.{arith}
use lib.Bits.{bit_xor, xor_self}
use lib.ListN.{length, get_or, replicate, length-replicate, get_or-replicate}
use lib.Seq.{ext_get_or}
use Rattle.lists.proofs.Tables.{get_or-tab}
use Rattle.hash.specs.Mask.{xored}
use Rattle.hash.proofs.Laws.{length-xored, xored-twice}
use Rattle.hash.proofs.Masks.{over_zeros}

pub xored-at : (s m : List ℕ) (i : ℕ) → i < length s → get_or (xored s m) i 0 ≡ bit_xor (get_or s i 0) (get_or m i 0)
unfolding xored
xored-at s m i h = get_or-tab (length s) (λ j. bit_xor (get_or s j 0) (get_or m j 0)) i h

pub xored-zeros : (s m : List ℕ) → length m ≡ length s → xored s m ≡ replicate (length s) 0 → s ≡ m
xored-zeros s m e z = sym (xored-twice s m) ∙ ap (λ (x : List ℕ). xored x m) z ∙ over_zeros m (length s) e

pub xored-self : (s : List ℕ) → xored s s ≡ replicate (length s) 0
xored-self s =
    let n = length s in
    let l : length (xored s s) ≡ length (replicate {A = ℕ} n 0) = length-xored s s ∙ sym (length-replicate n 0) in
    ext_get_or 0 (xored s s) (replicate n 0) l
    (λ i h.
    let k : i < length s = omega (arith, length-xored s s) in
    xored-at s s i k ∙ xor_self (get_or s i 0) ∙ sym (get_or-replicate n i 0 0 k))
