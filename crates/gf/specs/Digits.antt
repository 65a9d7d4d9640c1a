-- What the code prepares once for a factor, to multiply many elements by it.
use Rattle.std.specs.Prelude.{List, [], ◌∷◌, ℕ, zero, suc}
use Rattle.gf.specs.Field.{Modulus, times_x}

-- v, v times x, v times x ^ 2, .., n of them
unfoldable pub multiples : Modulus → ℕ → ℕ → List ℕ
multiples F zero v = []
multiples F (suc n) v = v ∷ multiples F n (times_x F v)
