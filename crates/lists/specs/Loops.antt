-- Loops as definitions: a choice, a table, a loop that runs to its end, a search.
use Rattle.std.specs.Prelude.{Bool, true, false, List, [], ◌∷◌, ◌++◌, ℕ, zero, suc}

-- the first where the test holds, else the second
abbrev pub pick : {A : Type 0} → Bool → A → A → A
pick true a b = a
pick false a b = b

-- f 0, f 1, .., f (n - 1)
unfoldable pub tab : ℕ → (ℕ → ℕ) → List ℕ
tab zero f = []
tab (suc n) f = tab n f ++ (f n ∷ [])

-- step 0, then step 1, .., then step (n - 1)
unfoldable pub turns : {A : Type 0} → (ℕ → A → A) → ℕ → A → A
turns step zero x = x
turns step (suc n) x = step n (turns step n x)

-- the first of the n numbers from i on that passes the test; i + n where none does
unfoldable pub first : (ℕ → Bool) → ℕ → ℕ → ℕ
first p zero i = i
first p (suc n) i = let r = first p n (suc i) in pick (p i) i r
