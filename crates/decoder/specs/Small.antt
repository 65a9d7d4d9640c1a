-- Whether each number of a list is an element of the field.
use Rattle.std.specs.Prelude.{Bool, true, false, List, ℕ, ◌<◌, length, get_or}
use Rattle.gf.specs.Field.{size}
use Rattle.gf.specs.Ten.{ten}

abbrev pub AllSmall : List ℕ → Bool → Type 0
AllSmall l true = (i : ℕ) → i < length l → get_or l i 0 < size ten
AllSmall l false = Unit
