-- The work area of decoding is at most 4·n·n numbers, for t at least 1 and 2t at most n.
use Prim.Native.Nat.{ℕ, ◌+◌, ◌*◌, ◌≤◌}
use native.Mathlib.Nat.{mul-le-mul_right, mul-le-mul_left, add-mul}
use native.Mathlib.Omega.{arith}
use Rattle.code.specs.Area.{decoding_room}

pub room-enough : (n t : ℕ) → 1 ≤ t → t + t ≤ n → decoding_room n t ≤ 4 * (n * n)
room-enough n t one half =
    let a : t * (t + 1) ≤ t * n = mul-le-mul_left t (omega arith) in
    let b : (t + t) * n ≤ n * n = mul-le-mul_right n half in
    let c : 2 * n ≤ n * n = mul-le-mul_right n (omega arith) in
    omega (arith, add-mul t t n)
