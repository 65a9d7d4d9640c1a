-- What the shuffle and the inversion answer, and what the lent list holds afterwards.
use Rattle.std.specs.Prelude.{◌≡◌, List, ℕ, ◌≤◌, ◌-◌, ◌/◌, ◌%◌, Result, Ok, Err, length}
use Rattle.lists.specs.declared.Refused.{Refused}
use Rattle.perm.specs.Shuffle.{shuffled}
use Rattle.perm.specs.Perm.{Inverse, Perm}

-- u, the list's length, is from 1 to 65536; the bytes are 16-bit numbers, at most u - 1 of them
pub record Shuffles (bytes list : List ℕ) : Type 0 where
  pub some : 1 ≤ length list
  pub most : length list ≤ 65536
  pub even : length bytes % 2 ≡ 0
  pub few : length bytes / 2 ≤ length list - 1

-- shuffling: of the bytes, and the list before and after
abbrev pub Shuffled : List ℕ → List ℕ → Result (Unit {0}) Refused → List ℕ → Type 0
Shuffled bytes before (Ok done) after = Shuffles bytes before × (after ≡ shuffled bytes (length before) (length bytes / 2))
Shuffled bytes before (Err refused) after = (Shuffles bytes before → ⊥) × (after ≡ before)

-- inverting: of the list, and its inverse before and after
abbrev pub Inverted : List ℕ → List ℕ → Result (Unit {0}) Refused → List ℕ → Type 0
Inverted list before (Ok done) after = (length before ≡ length list) × Inverse list after
Inverted list before (Err refused) after = (length before ≡ length list → Perm list → ⊥) × (after ≡ before)
