-- The numbers of a valid set: what sealing lays into the work area, the key and the ciphertext has room there.
use mathlib.Core.Path.{◌≡◌, ◌∙◌, ap}
use Prim.Native.Nat.{◌+◌, ◌-◌, ◌*◌, ◌≤◌}
use native.Mathlib.Nat.{mul-le-mul_left, mul-le-mul_right}
use native.Mathlib.Omega.{arith}
use Rattle.sets.specs.declared.Set.{Set}
use Rattle.sets.specs.Valid.{Valid}
use Rattle.bits.specs.Bits.{elements_in}
use Rattle.bits.proofs.Packing.{elements_in-bytes_for}

module _ {s : Set} (v : Valid s) where
  -- four runs of n + w numbers
  pub four_runs : 4 * (s.n + s.w) ≤ s.work
  four_runs =
      let some : 4 ≤ 4 * s.n = omega (arith, v.code, v.some_k) in
      omega (arith, v.work_is, mul-le-mul_right (s.n + s.w) some)

  -- k + t elements are less than a run, and so are the columns of GE
  pub half_run : s.k + s.t ≤ s.n + s.w
  half_run = omega (arith, v.code)

  -- the padded string is no longer than the ciphertext
  pub padded-le : s.k1 + s.k2 + s.k3 ≤ s.cipher
  padded-le = omega (arith, v.padded, v.cipher_is, mul-le-mul_left s.m half_run)

  -- it holds k + t elements
  pub padded-holds : elements_in s.m (s.k1 + s.k2 + s.k3) ≡ s.k + s.t
  padded-holds = ap (elements_in s.m) v.padded ∙ elements_in-bytes_for s.m (s.k + s.t) v.narrow

  -- the elements of GE lie within the public key, after its set byte
  pub key-holds : 8 + s.m * (s.k * (s.n + s.w - s.k)) ≤ 8 * s.public
  key-holds = omega (arith, v.public_is)
