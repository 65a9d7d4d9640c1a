-- Elements of ten bits, four at a time.
use mathlib.Core.Path.{◌≡◌, ap, ◌∙◌}
use mathlib.Core.List.{List}
use Prim.Native.Nat.{ℕ, ◌+◌, ◌*◌, ◌/◌, ◌%◌, ◌≤◌, ◌<◌}
use native.Mathlib.Omega.{arith}
use native.Mathlib.Decide.{dec_lt}
use native.Mathlib.Nat.{mul-zero, div-add-mod}
use lib.ListN.{length, get_or}
use Rattle.bits.specs.Bits.{bits_at}
use Rattle.bits.specs.Steps.{Begun}

pub begun_none : (m : ℕ) (s : List ℕ) (place : ℕ) (out : List ℕ) → Begun m s place 0 out
begun_none m s place out = record { within = omega arith; written = λ k h. absurd (omega arith); groups = omega (arith, mul-zero m) }

-- four more: those before them stay
pub begun_four : (s : List ℕ) (q j : ℕ) (old new : List ℕ) → Begun 10 s (8 * q) (4 * j) old → length new ≡ length old → 4 * j + 3 < length old
    → ((k : ℕ) → k < 4 * j → get_or new k 0 ≡ get_or old k 0) → get_or new (4 * j) 0 ≡ bits_at 10 s (8 * (q + 5 * j)) → get_or new (4 * j + 1) 0 ≡ bits_at 10 s (8 * (q + 5 * j) + 10)
    → get_or new (4 * j + 2) 0 ≡ bits_at 10 s (8 * (q + 5 * j) + 20) → get_or new (4 * j + 3) 0 ≡ bits_at 10 s (8 * (q + 5 * j) + 30) → Begun 10 s (8 * q) (4 * (j + 1)) new
begun_four s q j old new B l room kept first second third fourth =
    record {
      within = omega arith;
      written = λ k h. go k h (dec_lt k (4 * j)) (dec_lt k (4 * j + 1)) (dec_lt k (4 * j + 2)) (dec_lt k (4 * j + 3));
      groups = omega arith;
    }
  where
    at : (k p : ℕ) → p ≡ 8 * q + 10 * k → bits_at 10 s p ≡ bits_at 10 s (8 * q + 10 * k)
    at k p e = ap (bits_at 10 s) e

    go : (k : ℕ) → k < 4 * (j + 1) → Dec (k < 4 * j) → Dec (k < 4 * j + 1) → Dec (k < 4 * j + 2) → Dec (k < 4 * j + 3) → get_or new k 0 ≡ bits_at 10 s (8 * q + 10 * k)
    go k h (yes b) _ _ _ = kept k b ∙ B.written k b
    go k h (no b) (yes c) _ _ = let e : k ≡ 4 * j = omega arith in rw e (first ∙ at (4 * j) (8 * (q + 5 * j)) (omega arith))
    go k h (no b) (no c) (yes d) _ = let e : k ≡ 4 * j + 1 = omega arith in rw e (second ∙ at (4 * j + 1) (8 * (q + 5 * j) + 10) (omega arith))
    go k h (no b) (no c) (no d) (yes f) = let e : k ≡ 4 * j + 2 = omega arith in rw e (third ∙ at (4 * j + 2) (8 * (q + 5 * j) + 20) (omega arith))
    go k h (no b) (no c) (no d) (no f) = let e : k ≡ 4 * j + 3 = omega arith in rw e (fourth ∙ at (4 * j + 3) (8 * (q + 5 * j) + 30) (omega arith))

-- a place that is a whole byte's
pub begun_byte : (m : ℕ) (s : List ℕ) (place n : ℕ) (out : List ℕ) → m ≡ 10 → place % 8 ≡ 0 → Begun 10 s (8 * (place / 8)) n out → Begun m s place n out
begun_byte m s place n out e z B =
    let p : 8 * (place / 8) ≡ place = omega (arith, div-add-mod place 8) in
    rw (e, ← p) B

pub byte_room : (m place n k : ℕ) → m ≡ 10 → place % 8 ≡ 0 → place + m * n ≤ 8 * k → 8 * (place / 8) + 10 * n ≤ 8 * k
byte_room m place n k e z h =
    let g : place + 10 * n ≤ 8 * k = rw e at h in
    omega (arith, div-add-mod place 8)
