-- Every valid set has room for the parts of the work area.
use Rattle.std.proofs.Common.{◌≡◌, ◌∙◌, ◌+◌, ◌-◌, ◌*◌, ◌≤◌, arith}
use native.Mathlib.Nat.{mul-le-mul_left, mul-le-mul_right, mul_assoc, add-mul}
use Rattle.sets.specs.declared.Set.{Set}
use Rattle.sets.specs.Valid.{Valid, key_elements}
use Rattle.making.specs.Sizes.{run_size}

module _ (s : Set) (v : Valid s) where
  some-n : 3 ≤ s.n
  some-n = omega (arith, v.code, v.some_k, v.some_t)

  -- 4n(n + w), by its products
  whole : s.work ≡ 4 * (s.n * (s.n + s.w))
  whole = v.work_is ∙ mul_assoc 4 s.n (s.n + s.w)

  -- k + 2 columns, and 3, are at most n
  reduced : s.k * (s.n + s.w) + 2 * (s.n + s.w) ≤ s.n * (s.n + s.w)
  reduced = omega (arith, mul-le-mul_right {m = s.k + 2} {n = s.n} (s.n + s.w) (omega (arith, v.code, v.some_t)), add-mul s.k 2 (s.n + s.w))

  three : 3 * (s.n + s.w) ≤ s.n * (s.n + s.w)
  three = mul-le-mul_right {m = 3} {n = s.n} (s.n + s.w) some-n

  key : key_elements s ≤ s.k * (s.n + s.w)
  key = mul-le-mul_left {m = s.n + s.w - s.k} {n = s.n + s.w} s.k (omega arith)

  pub run_fits : s.k * (s.n + s.w) + s.n + 4 * s.w + s.n + (s.n + s.w) + (s.n - s.k + 1) + run_size s ≤ s.work
  run_fits = omega (arith, whole, reduced, three, key, some-n, v.room)

  pub search_fits : s.k * (s.n + s.w) + s.n + 4 * s.w + s.n + (s.n + s.w) + (s.n - s.k + 1) + (4 * s.w + 20) ≤ s.work
  search_fits = omega (arith, whole, reduced, three, some-n, v.room)
