-- The numbers of a valid set are small, and less than a byte of the padded string is lost.
use Prim.Native.Nat.{◌+◌, ◌*◌, ◌≤◌, ◌<◌}
use native.Mathlib.Nat.{mul-le-mul}
use native.Mathlib.Omega.{arith}
use Rattle.sets.specs.declared.Set.{Set}
use Rattle.sets.specs.Valid.{Valid}
use Rattle.scheme.specs.Padding.{lost_bits}

pub few_bits : {s : Set} → Valid s → s.m * (s.k + s.t) ≤ 16 * 65536
few_bits {s} v =
    let h : s.k + s.t ≤ 65536 = omega (arith, v.code, v.places) in
    mul-le-mul v.wide h

pub few_bytes : {s : Set} → Valid s → s.k1 + s.k2 + s.k3 ≤ 131072
few_bytes v = omega (arith, v.padded, few_bits v)

pub few-lost : {s : Set} → Valid s → lost_bits s < 8
few-lost v = omega (arith, v.padded)
