-- No bit is set where every byte is zero, and only there.
use Rattle.std.proofs.Common.{◌≡◌, ℕ, zero, suc, List, [], ◌∷◌, length, replicate, bit_or, refl, ap, ap₂, ◌∙◌, arith}
use Rattle.std.specs.List.{fold}
use lib.Bits.{or_add_and, and_le_l, and_le_r, or_zero_l}

or-zero : (a b : ℕ) → bit_or a b ≡ 0 → (a ≡ 0) × (b ≡ 0)
or-zero a b e = (omega (arith, or_add_and a b, and_le_r a b), omega (arith, or_add_and a b, and_le_l a b))

gathered-from : (a : ℕ) (l : List ℕ) → fold bit_or a l ≡ 0 → (a ≡ 0) × (l ≡ replicate (length l) 0)
gathered-from a [] e = (e, refl)
gathered-from a (x ∷ l) e =
    let rest = gathered-from (bit_or a x) l e in
    let first = or-zero a x rest.0 in
    (first.0, ap₂ ◌∷◌ first.1 rest.1)

pub gather-only : (l : List ℕ) → fold bit_or 0 l ≡ 0 → l ≡ replicate (length l) 0
gather-only l e = (gathered-from 0 l e).1

zeros : (n : ℕ) → fold bit_or 0 (replicate n 0) ≡ 0
zeros zero = refl
zeros (suc n) = ap (λ (a : ℕ). fold bit_or a (replicate n 0)) (or_zero_l 0) ∙ zeros n

pub gather_none : (l : List ℕ) → l ≡ replicate (length l) 0 → fold bit_or 0 l ≡ 0
gather_none l e = ap (fold bit_or 0) e ∙ zeros (length l)
