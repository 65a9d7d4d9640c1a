-- How the test of a permutation looks for an entry that stands twice: window b holds the values from 4096 b on, 4096 of them.
use Rattle.std.specs.Prelude.{◌≡◌, List, ℕ, ◌/◌, ◌%◌, ◌<◌, eqb, length, get_or, set}
use Rattle.lists.specs.Loops.{pick, turns}

-- the slot of a value in window b; 4096, after the last, for a value of another window
abbrev pub slot_of : ℕ → ℕ → ℕ
slot_of b v = pick (eqb (v / 4096) b) (v % 4096) 4096

-- each place i is written to the slot of p[i]
unfoldable pub written : ℕ → List ℕ → List ℕ → List ℕ
written b p q = turns (λ i q'. set q' (slot_of b (get_or p i 0)) i) (length p) q

-- each place still stands there, if its entry is in the window
abbrev pub Kept : ℕ → List ℕ → List ℕ → Type 0
Kept b p q = (i : ℕ) → i < length p → slot_of b (get_or p i 0) < 4096 → get_or q (slot_of b (get_or p i 0)) 0 ≡ i

-- each entry of p that is in window b stands once
abbrev pub Once : ℕ → List ℕ → Type 0
Once b p = (i j : ℕ) → i < length p → j < length p → get_or p i 0 / 4096 ≡ b → get_or p i 0 ≡ get_or p j 0 → i ≡ j
