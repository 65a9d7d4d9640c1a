-- The sum of rows: one more row a turn.
use mathlib.Core.Path.{◌≡◌, refl, sym, ap₂, ap, ◌∙◌}
use mathlib.Core.List.{List}
use Prim.Native.Nat.{ℕ, ◌+◌, ◌-◌, ◌*◌, ◌<◌}
use native.Mathlib.Omega.{arith}
use native.Mathlib.Numerals.{add-one}
use lib.ListN.{length, get_or, take, drop, length-drop}
use lib.Seq.{get_or-take, get_or-drop, take_all}
use Rattle.gf.specs.Field.{Modulus, ◌⊕◌, mul}
use Rattle.gf.specs.Runs.{row_plus}
use Rattle.gf.proofs.Rows.{row_plus-at, length-row_plus}
use Rattle.scheme.specs.Sealing.{combined}

pub combined_none : (F : Modulus) (x : List ℕ) (M : ℕ → ℕ) → combined F x 0 M ≡ 0
unfolding combined
combined_none F x M = refl

combined-more : (F : Modulus) (x : List ℕ) (k : ℕ) (M : ℕ → ℕ) → combined F x (k + 1) M ≡ combined F x k M ⊕ mul F (get_or x k 0) (M k)
unfolding combined
combined-more F x k M = rw (add-one k) refl

-- an element of a part that is lent to be read
pub slice_at : (a n : ℕ) (l : List ℕ) (j : ℕ) → j < n → get_or (take (a + n - a) (drop a l)) j 0 ≡ get_or l (a + j) 0
slice_at a n l j h =
    let e : a + n - a ≡ n = omega arith in rw (e, get_or-take n (drop a l) j 0 h, get_or-drop a l j 0)

-- row i is added
pub row_added : (F : Modulus) (x matrix out row : List ℕ) (i stride n f : ℕ) → n ≡ length out → f ≡ get_or x i 0
    → row ≡ row_plus F f (take (i * stride + n - i * stride) (drop (i * stride) matrix)) out
    → ((j : ℕ) → j < length out → get_or out j 0 ≡ combined F x i (λ i. get_or matrix (i * stride + j) 0))
    → (j : ℕ) → j < length row → get_or row j 0 ≡ combined F x (i + 1) (λ i. get_or matrix (i * stride + j) 0)
row_added F x matrix out row i stride n f en ef er so j h =
    let by : List ℕ = take (i * stride + n - i * stride) (drop (i * stride) matrix) in
    let g : j < length out = omega (arith, ap length er, length-row_plus F f by out) in
    ap (λ (l : List ℕ). get_or l j 0) er ∙ row_plus-at F f by out j g
    ∙ ap₂ (λ (a b : ℕ). a ⊕ b) (so j g) (ap₂ (mul F) ef (slice_at (i * stride) n matrix j (omega arith)))
    ∙ sym (combined-more F x i (λ i. get_or matrix (i * stride + j) 0))

-- what lies from a place on
pub tail_part : (a : ℕ) (l : List ℕ) → take (length l - a) (drop a l) ≡ drop a l
tail_part a l = take_all (length l - a) (drop a l) (rw length-drop (omega arith))
