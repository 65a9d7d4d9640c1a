-- How long the parts of the work area are.
use Rattle.std.specs.Prelude.{ℕ, ◌+◌, ◌*◌}
use Rattle.sets.specs.declared.Set.{Set}
use Rattle.sets.specs.Valid.{key_elements}

-- the elements that a private key packs: block columns, inverses of the multipliers, GE
abbrev pub run_size : Set → ℕ
run_size s = 2 * s.w + s.n + key_elements s
