-- What the kernels compute on runs of elements of a list. A run is its first place and its number of elements.
use Rattle.std.specs.Prelude.{List, ℕ, ◌+◌, length, get_or, set}
use Rattle.lists.specs.Loops.{tab, turns}
use Rattle.gf.specs.Field.{Modulus, ◌⊕◌, mul}

-- row, with f times its partner of `by` added to each element
unfoldable pub row_plus : Modulus → ℕ → List ℕ → List ℕ → List ℕ
row_plus F f by row = tab (length row) (λ i. get_or row i 0 ⊕ mul F f (get_or by i 0))

-- row, each element times its partner of `by`
unfoldable pub row_times : Modulus → List ℕ → List ℕ → List ℕ
row_times F by row = tab (length row) (λ i. mul F (get_or row i 0) (get_or by i 0))

-- turn i of add_run, at the i-th place of each run
abbrev pub add_at : Modulus → ℕ → ℕ → ℕ → ℕ → List ℕ → List ℕ
add_at F dst src f i l = set l (dst + i) (get_or l (dst + i) 0 ⊕ mul F f (get_or l (src + i) 0))

-- f times the n elements from src on, added to those from dst on, one place after the other
unfoldable pub add_run : Modulus → ℕ → ℕ → ℕ → ℕ → List ℕ → List ℕ
add_run F dst src n f l = turns (add_at F dst src f) n l

-- turn i of scale_run
abbrev pub scale_at : Modulus → ℕ → ℕ → ℕ → List ℕ → List ℕ
scale_at F at f i l = set l (at + i) (mul F f (get_or l (at + i) 0))

-- the n elements from `at` on, times f
unfoldable pub scale_run : Modulus → ℕ → ℕ → ℕ → List ℕ → List ℕ
scale_run F at n f l = turns (scale_at F at f) n l

-- turn i of mul_run
abbrev pub mul_at : Modulus → ℕ → ℕ → ℕ → List ℕ → List ℕ
mul_at F dst src i l = set l (dst + i) (mul F (get_or l (dst + i) 0) (get_or l (src + i) 0))

-- the n elements from dst on, each times its partner among those from src on
unfoldable pub mul_run : Modulus → ℕ → ℕ → ℕ → List ℕ → List ℕ
mul_run F dst src n l = turns (mul_at F dst src) n l
