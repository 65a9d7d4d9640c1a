-- The definition computes: worked examples, with their counts.
use mathlib.Core.Path.{◌≡◌, refl}
use mathlib.Core.List.{[], ◌∷◌}
use Rattle.lists.specs.Loops.{turns, first, tab}
use Rattle.gf.specs.Field.{mul, act, times_x, inverse, power}
use Rattle.gf.specs.Runs.{add_run, scale_run}
use Rattle.gf.specs.Ten.{ten}
use Rattle.linear.specs.Matrix.{swap_run}
use Rattle.linear.specs.Elimination.{eliminated, eliminate_from, pivot_row, place_pivot, scale_pivot, clear_row, clear_column, reduce_column}
use Rattle.linear.specs.Kernel.{kernel_vector}

-- column 0: a swap, a scaling by 1 / 2 = 516, no addition; column 1: a scaling, an addition
two : eliminated ten 2 3 2 (0 ∷ 2 ∷ 4 ∷ 2 ∷ 2 ∷ 6 ∷ []) ≡ record { mat = 1 ∷ 0 ∷ 1 ∷ 0 ∷ 1 ∷ 2 ∷ []; cols = 2; ops = 4 }
unfolding eliminated eliminate_from pivot_row place_pivot scale_pivot clear_row clear_column reduce_column turns first scale_run add_run swap_run mul act times_x inverse power
two = refl

-- column 1 is 3 times column 0: an addition, then no usable row, and 3 times column 0 plus column 1 is zero
vector : kernel_vector ten 2 3 (1 ∷ 3 ∷ 5 ∷ 2 ∷ 6 ∷ 7 ∷ []) ≡ 3 ∷ 1 ∷ 0 ∷ []
unfolding kernel_vector tab eliminated eliminate_from pivot_row place_pivot scale_pivot clear_row clear_column reduce_column turns first scale_run add_run swap_run mul act times_x inverse power
vector = refl
