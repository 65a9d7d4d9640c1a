-- The rule of the program `sizes`: a line names a set if it is exactly two lower-case hex digits of a known set byte.
use Rattle.std.specs.Prelude.{◌≡◌, List, [], ◌∷◌, ℕ, ◌+◌, ◌-◌, ◌*◌, ◌<◌, nat_le, if◌then◌else◌, length, get_or, Option, Some, None}
use Rattle.sets.specs.declared.Set.{Set}
use Rattle.sets.specs.Table.{set_of}
use Rattle.report.specs.declared.Line.{Line}
use Rattle.report.specs.declared.Line.TheVariants.{Empty, One, Two, Long}

-- the value of a lower-case hex digit, `0` to `9` or `a` to `f`
abbrev pub hex_digit : ℕ → Option ℕ
hex_digit c =
    if nat_le 48 c then (if nat_le c 57 then Some (c - 48) else (if nat_le 97 c then (if nat_le c 102 then Some (c - 87) else None) else None)) else None

-- the set whose byte has the digits a and b
abbrev pub set_of_digits : Option ℕ → Option ℕ → Option Set
set_of_digits None b = None
set_of_digits (Some a) None = None
set_of_digits (Some a) (Some b) = set_of (16 * a + b)

-- the set that a line names
abbrev pub set_of_line : List ℕ → Option Set
set_of_line [] = None
set_of_line (a ∷ []) = None
set_of_line (a ∷ b ∷ []) = set_of_digits (hex_digit a) (hex_digit b)
set_of_line (a ∷ b ∷ c ∷ l) = None

-- what the program keeps of the line l: all of it up to two bytes, and of a longer one the first two and that it is longer
abbrev pub Keeps : Line → List ℕ → Type 0
Keeps Empty l = l ≡ []
Keeps (One a) l = l ≡ a ∷ []
Keeps (Two a b) l = l ≡ a ∷ b ∷ []
Keeps (Long a b) l = (2 < length l) × (get_or l 0 0 ≡ a) × (get_or l 1 0 ≡ b)
