-- A list of places, shuffled by swaps (RLCE-KEM specification of September 14, 2017, section 7.8, getPermutation).
use Rattle.std.specs.Prelude.{List, ℕ, ◌+◌, ◌-◌, ◌%◌, get_or, set}
use Rattle.lists.specs.Loops.{tab, turns}
use Rattle.bits.specs.Numbers.{number16}

-- P[i] = i for i below u
unfoldable pub identity : ℕ → List ℕ
identity u = tab u (λ i. i)

-- places i and j swapped
unfoldable pub swapped : List ℕ → ℕ → ℕ → List ℕ
swapped p i j = set (set p i (get_or p j 0)) j (get_or p i 0)

-- the place that i is swapped with, by the i-th 16-bit number of the bytes
abbrev pub partner : List ℕ → ℕ → ℕ → ℕ
partner bytes u i = i + number16 bytes i % (u - i)

-- from P[i] = i, for i below v, swap places i and i + (s mod (u - i))
unfoldable pub shuffled : List ℕ → ℕ → ℕ → List ℕ
shuffled bytes u v = turns (λ i p. swapped p i (partner bytes u i)) v (identity u)
