-- What the entries' parts stand for.
use Rattle.std.specs.Prelude.{List, ℕ, ◌+◌, length, take, drop}
use Rattle.gf.specs.Ten.{ten}
use Rattle.gf.specs.Runs.{row_times}
use Rattle.sets.specs.declared.Set.{Set}
use Rattle.linear.specs.Elimination.{Done}
use Rattle.scheme.specs.Matrices.{Matrix}
use Rattle.scheme.specs.Setup.{chain}
use Rattle.making.specs.declared.entries.Entries.{Entries}
use Rattle.making.specs.Filling.{scaled, permuted, mixed, reduction}

abbrev pub set_in : Entries → Set
set_in e = e.random.parameters.set

-- the coefficients of row i of the generator matrix, times the multipliers of their columns
abbrev pub coefficients_in : Entries → ℕ → List ℕ
coefficients_in e i = row_times ten (take (length e.generator.now) (drop i e.multipliers.now)) e.generator.now

abbrev pub scaled_in : Entries → Matrix
scaled_in e = scaled (set_in e) e.random.bytes.now

abbrev pub permuted_in : Entries → Matrix
permuted_in e = permuted (set_in e) e.random.bytes.now

abbrev pub mixed_in : Entries → ℕ → ℕ → ℕ → ℕ
mixed_in e = mixed (set_in e) e.random.bytes.now e.blocks.now

-- the matrix that is reduced
abbrev pub matrix_in : Entries → Matrix
matrix_in e = chain (set_in e) e.random.bytes.now e.blocks.now e.second.now

abbrev pub columns_in : Entries → ℕ
columns_in e = (set_in e).n + (set_in e).w

-- the end of its reduction
abbrev pub reduction_in : Entries → Done
reduction_in e = reduction (set_in e) e.random.bytes.now e.blocks.now e.second.now
