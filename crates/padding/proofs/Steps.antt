-- The steps of padding, on a string that is given by its parts.
use mathlib.Core.Path.{◌≡◌, sym, ap, ap₂, ◌∙◌}
use mathlib.Core.List.{List, ◌++◌, append_assoc}
use Prim.Native.Nat.{ℕ, ◌+◌, ◌-◌}
use native.Mathlib.Omega.{arith}
use lib.ListN.{length, take, drop, length-append}
use lib.Seq.{take_at, drop_at}
use Rattle.hash.specs.Mask.{mgf, xored}
use Rattle.padding.specs.Steps.{check_masked, front_masked, seed_masked}

pub seed-of : (front : ℕ) (a b : List ℕ) → length a ≡ front → seed_masked front (a ++ b) ≡ a ++ xored b (mgf a (length b))
unfolding seed_masked
seed-of front a b e =
    let l : length (a ++ b) - front ≡ length b = omega (arith, length-append a b) in
    rw (take_at a b front e, drop_at a b front e, l)

pub front_of : (front : ℕ) (e0 a b : List ℕ) → length a ≡ front → front_masked front e0 (a ++ b) ≡ xored a (mgf (b ++ e0) front) ++ b
unfolding front_masked
front_of front e0 a b e = rw (take_at a b front e, drop_at a b front e)

pub check-of : (k1 k2 : ℕ) (e0 a c b : List ℕ) → length a ≡ k1 → length c ≡ k2
    → check_masked k1 k2 e0 ((a ++ c) ++ b) ≡ (a ++ xored c (mgf (a ++ (b ++ e0)) k2)) ++ b
unfolding check_masked
check-of k1 k2 e0 a c b e f =
    let l : length (a ++ c) ≡ k1 + k2 = length-append a c ∙ ap₂ ◌+◌ e f in
    let t : take k1 ((a ++ c) ++ b) ≡ a = ap (take k1) (append_assoc a c b) ∙ take_at a (c ++ b) k1 e in
    let d : drop k1 ((a ++ c) ++ b) ≡ c ++ b = ap (drop k1) (append_assoc a c b) ∙ drop_at a (c ++ b) k1 e in
    rw (t, d, drop_at (a ++ c) b (k1 + k2) l, take_at c b k2 f, drop_at c b k2 f)
    (sym (append_assoc a (xored c (mgf (a ++ (b ++ e0)) k2)) b))
