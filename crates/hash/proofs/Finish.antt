-- The padding as one more part of the message, and then another.
use Rattle.std.proofs.Common.{◌≡◌, ℕ, suc, ◌+◌, ◌-◌, ◌/◌, ◌%◌, ◌≤◌, List, ◌∷◌, ◌++◌, length, take, replicate, sym, refl, ap, ◌∙◌, ap₂, add-sub_of_le, one-add, arith, length-append, length-take-le, take_at}
use lib.ListN.{length-replicate, replicate-append-replicate}
use Rattle.hash.specs.declared.hasher.Hasher.{Hasher}
use Rattle.hash.specs.Constants.{initial}
use Rattle.hash.specs.Sha.{chain, bytes8, bits16, zeros, pad, output, sha512}
use Rattle.hash.specs.Held.{Holds}

pub length-bits : (n : ℕ) → length (bits16 n) ≡ 16
unfolding bits16 bytes8
length-bits n = refl

take-replicate : (k n : ℕ) → k ≤ n → take {A = ℕ} k (replicate n 0) ≡ replicate k 0
take-replicate k n h =
    ap (λ (x : ℕ). take {A = ℕ} k (replicate x 0)) (sym (add-sub_of_le h))
    ∙ ap (take {A = ℕ} k) (sym (replicate-append-replicate k (n - k) 0))
    ∙ take_at (replicate k 0) (replicate (n - k) 0) k (length-replicate k 0)

pub length-mark : {mark : List ℕ} (k : ℕ) → mark ≡ 0x80 ∷ replicate 127 0 → k ≤ 128 → length (take k mark) ≡ k
length-mark {mark} k e h =
    let l : length mark ≡ 128 = ap length e in
    length-take-le k mark (omega arith)

-- the padded message is whole blocks
pub pad-whole : (m : List ℕ) → length (pad m) % 128 ≡ 0
unfolding pad zeros
pad-whole m =
    let z : ℕ = (239 - length m % 128) % 128 in
    let e : length (pad m) ≡ length m + suc z + 16 =
    length-append (m ++ 0x80 ∷ replicate z 0) (bits16 (length m))
    ∙ ap₂ ◌+◌ (length-append m (0x80 ∷ replicate z 0) ∙ ap (λ (x : ℕ). length m + suc x) (length-replicate z 0)) (length-bits (length m)) in
    omega arith

pub padded : {h : Hasher} {len : ℕ} {mark size : List ℕ} (m : List ℕ) → len ≡ length m → mark ≡ 0x80 ∷ replicate 127 0 → size ≡ bits16 len
    → Holds h ((m ++ take (1 + (239 - len % 128) % 128) mark) ++ size) → output h.state ≡ sha512 m
unfolding sha512 pad zeros
padded {h} {len} {mark} {size} m l e f k =
    let z : ℕ = (239 - length m % 128) % 128 in
    let t : take (1 + (239 - len % 128) % 128) mark ≡ 0x80 ∷ replicate z 0 =
    rw (l, e, one-add) (ap (λ (x : List ℕ). 0x80 ∷ x) (take-replicate z 127 (omega arith))) in
    let p : (m ++ take (1 + (239 - len % 128) % 128) mark) ++ size ≡ pad m = ap₂ (λ (x y : List ℕ). (m ++ x) ++ y) t (f ∙ ap bits16 l) in
    ap output k.state_is ∙ ap (λ (x : List ℕ). output (chain initial x (length x / 128))) p
