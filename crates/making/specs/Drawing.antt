-- What is read from the random bytes.
use Rattle.std.specs.Prelude.{List, ℕ, ◌+◌, ◌-◌, ◌*◌, take, drop}
use Rattle.bits.specs.Bits.{bytes_for}
use Rattle.sets.specs.declared.Set.{Set}
use Rattle.sets.specs.Valid.{setup_elements}
use Rattle.scheme.specs.Lists.{non_zero}
use Rattle.scheme.specs.Setup.{drawn}

-- the non-zero ones of `count` elements from number `from` on
abbrev pub non_zero_among : Set → List ℕ → ℕ → ℕ → List ℕ
non_zero_among s random from count = non_zero (take count (drop from (drawn s random)))

-- the n - 1 numbers of the first permutation, two bytes each, behind the elements
abbrev pub shuffling_first : Set → List ℕ → List ℕ
shuffling_first s random = take (2 * (s.n - 1)) (drop (bytes_for s.m (setup_elements s)) random)

-- the n + w - 1 numbers of the second permutation in window p
abbrev pub shuffling_second : Set → List ℕ → ℕ → List ℕ
shuffling_second s random p =
    take (2 * (s.n + s.w - 1)) (drop (bytes_for s.m (setup_elements s) + (2 * s.n - 2 + p)) random)
