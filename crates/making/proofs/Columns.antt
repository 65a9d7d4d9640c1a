-- The first columns of inverse blocks, block after block.
use Rattle.std.proofs.Common.{◌≡◌, refl, sym, ap, ◌∙◌, ℕ, zero, suc, ◌+◌, ◌*◌, ◌≤◌, List, [], ◌∷◌, ◌++◌, length, get_or, take, arith}
use Rattle.gf.specs.Field.{mul, inverse}
use Rattle.gf.specs.Ten.{ten}
use Rattle.scheme.specs.Setup.{det, inverse_columns}
use Rattle.making.proofs.Lists.{take_put}

-- the determinant of block i
abbrev pub det_at : List ℕ → ℕ → ℕ
det_at A i = det ten (get_or A (4 * i) 0) (get_or A (4 * i + 1) 0) (get_or A (4 * i + 2) 0) (get_or A (4 * i + 3) 0)

abbrev pub column_at : List ℕ → ℕ → List ℕ
column_at A i = mul ten (get_or A (4 * i + 3) 0) (inverse ten (det_at A i)) ∷ mul ten (get_or A (4 * i + 2) 0) (inverse ten (det_at A i)) ∷ []

pub columns_more : (A : List ℕ) (i : ℕ) → 4 * i + 4 ≤ length A → inverse_columns ten (take (4 * i + 4) A) ≡ inverse_columns ten (take (4 * i) A) ++ column_at A i
unfolding inverse_columns
columns_more [] i h = absurd (omega arith)
columns_more (a ∷ []) i h = absurd (omega arith)
columns_more (a ∷ b ∷ []) i h = absurd (omega arith)
columns_more (a ∷ b ∷ c ∷ []) i h = absurd (omega arith)
columns_more (a ∷ b ∷ c ∷ d ∷ l) zero h = refl
columns_more (a ∷ b ∷ c ∷ d ∷ l) (suc i) h =
    let f0 : 4 * suc i ≡ suc (suc (suc (suc (4 * i)))) = omega arith in
    let f1 : 4 * suc i + 1 ≡ suc (suc (suc (suc (4 * i + 1)))) = omega arith in
    let f2 : 4 * suc i + 2 ≡ suc (suc (suc (suc (4 * i + 2)))) = omega arith in
    let f3 : 4 * suc i + 3 ≡ suc (suc (suc (suc (4 * i + 3)))) = omega arith in
    let f4 : 4 * suc i + 4 ≡ suc (suc (suc (suc (4 * i + 4)))) = omega arith in
    rw (f4, f3, f2, f1, f0) (ap (λ (r : List ℕ). mul ten d (inverse ten (det ten a b c d)) ∷ mul ten c (inverse ten (det ten a b c d)) ∷ r) (columns_more l i (omega arith)))

pub columns_none : (A : List ℕ) → [] ≡ inverse_columns ten (take 0 A)
unfolding inverse_columns
columns_none A = refl

-- the column of block i is put behind those before it
pub columns_step : (A : List ℕ) (i : ℕ) (l p rest : List ℕ) → take (2 * i) l ≡ inverse_columns ten (take (4 * i) A) → 4 * i + 4 ≤ length A → 2 * i ≤ length l
    → p ≡ column_at A i → take (2 * (i + 1)) (take (2 * i) l ++ (p ++ rest)) ≡ inverse_columns ten (take (4 * (i + 1)) A)
columns_step A i l p rest e h fits q =
    let long : length p ≡ 2 = rw q in
    let four : 4 * (i + 1) ≡ 4 * i + 4 = omega arith in
    take_put (2 * i) 2 (2 * (i + 1)) p l rest fits long (omega arith) ∙ rw (four, e, q) (sym (columns_more A i h))
