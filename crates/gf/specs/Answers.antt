-- What the field calls answer: the field's operations as partial functions of numbers, a number, or none where they refuse.
use Rattle.std.specs.Prelude.{◌≡◌, ℕ, ◌<◌, ◌≤◌, Option, Some, None, IsSomeAnd, nat_lt, ◌==◌, if◌then◌else◌}
use Rattle.gf.specs.Field.{◌⊕◌, size, mul, alpha, inverse, Logarithm}
use Rattle.gf.specs.Ten.{ten}

-- what e says where a is an element; a number of 1024 or more is refused
abbrev pub within : ℕ → Option ℕ → Option ℕ
within a e = if nat_lt a (size ten) then e else None

-- the sum of two elements
abbrev pub sum_answer : ℕ → ℕ → Option ℕ
sum_answer a b = within a (within b (Some (a ⊕ b)))

-- the product of two elements
abbrev pub product_answer : ℕ → ℕ → Option ℕ
product_answer a b = within a (within b (Some (mul ten a b)))

-- the inverse of an element; that of zero is refused
abbrev pub inverse_answer : ℕ → Option ℕ
inverse_answer a = within a (if a == 0 then None else Some (inverse ten a))

-- α to the i; i is 0 to 1023, and α to the 1023 is 1
abbrev pub power_answer : ℕ → Option ℕ
power_answer i = within i (Some (alpha ten i))

-- the discrete logarithm of an element to the base α, 0 to 1022; that of zero is refused. It is a relation, which leaves one answer to each number
pub record LogarithmAnswer (a : ℕ) (r : Option ℕ) : Type 0 where
  pub given : 0 < a → a < size ten → IsSomeAnd r (Logarithm ten a)
  pub of_zero : a ≡ 0 → r ≡ None
  pub outside : size ten ≤ a → r ≡ None
