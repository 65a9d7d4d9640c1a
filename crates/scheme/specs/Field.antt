-- The field of a set: GF(2^10) for every set of the table.
use Rattle.gf.specs.Field.{Modulus}
use Rattle.gf.specs.Ten.{ten}
use Rattle.sets.specs.declared.Set.{Set}

abbrev pub field_of : Set → Modulus
field_of s = ten
