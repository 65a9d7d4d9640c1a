-- The work area of decoding, for a word of n places of which t may be wrong.
use Rattle.std.specs.Prelude.{ℕ, ◌+◌, ◌*◌}

-- how many numbers decoding works in: a matrix of t rows and t + 1 columns; then 2t power sums and as many powers of α, the locator's t + 1
-- coefficients, its values at the n points, the points, and the places that may be wrong, at most t
abbrev pub decoding_room : ℕ → ℕ → ℕ
decoding_room n t = t * (t + 1) + (t + t + (t + t) + (t + 1) + n + n + t)
