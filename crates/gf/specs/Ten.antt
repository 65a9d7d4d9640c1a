-- GF(2^10), by x ^ 10 + x ^ 3 + 1 (RLCE-KEM specification of September 14, 2017, section 7.1): the field of sets 6 and 1 (table 2).
use Rattle.std.proofs.Common.{lit<}
use Rattle.gf.specs.Field.{Modulus}

abbrev pub ten : Modulus
ten = record { k = 9; low = 9; low_lt = lit< tt }
