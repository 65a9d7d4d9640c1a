-- Sums of rows as sums over the field.
use mathlib.Core.Path.{◌≡◌, refl, sym, ap₂, ◌∙◌}
use mathlib.Core.Bool.{Bool, true, false}
use mathlib.Core.List.{List}
use Prim.Native.Nat.{ℕ, zero, suc, ◌<◌}
use native.Mathlib.Omega.{arith}
use borrow.Author.Tests.{eq-eqb, ne_eqb}
use lib.Dec.{eqb}
use lib.ListN.{get_or}
use Rattle.lists.specs.Loops.{pick}
use Rattle.theory.specs.Word.{sum, unit}
use Rattle.theory.proofs.Place.{at-or}
use Rattle.theory.proofs.Sum.{unit-same, unit-other}
use Rattle.gf.specs.Field.{Modulus, ◌⊕◌, mul, size}
use Rattle.gf.specs.Ten.{ten}
use Rattle.gf.proofs.Xor.{add-lt}
use Rattle.gf.proofs.Ring.{mul-lt}
use Rattle.gf.proofs.Elements.{plus, times, el-xor, el-mul}
use Rattle.linear.specs.Inverse.{identity}
use Rattle.sets.specs.declared.Set.{Set}
use Rattle.scheme.specs.Sealing.{combined}
use Rattle.tie.proofs.Bridge.{field, K, E}
use Rattle.opening.specs.Inverse.{row_sum}

pub row_sum-el : (s : Set) (x : ℕ → ℕ) (k : ℕ) (M : ℕ → ℕ) → E s (row_sum ten x k M) ≡ sum (K s) (λ i. times ten (E s (x i)) (E s (M i))) k
unfolding row_sum sum
row_sum-el s x zero M = refl
row_sum-el s x (suc k) M = el-xor ten (field s) _ _ ∙ ap₂ (plus ten) (row_sum-el s x k M) (el-mul ten (field s) _ _)

pub row_sum-lt : (x : ℕ → ℕ) (k : ℕ) (M : ℕ → ℕ) → row_sum ten x k M < size ten
unfolding row_sum
row_sum-lt x zero M = omega arith
row_sum-lt x (suc k) M = add-lt 10 _ _ (row_sum-lt x k M) (mul-lt ten (x k) (M k))

-- sums of equal terms are equal
pub row_sum-ext : (F : Modulus) (x y : ℕ → ℕ) (k : ℕ) (M N : ℕ → ℕ) → ((i : ℕ) → i < k → x i ≡ y i) → ((i : ℕ) → i < k → M i ≡ N i) → row_sum F x k M ≡ row_sum F y k N
unfolding row_sum
row_sum-ext F x y zero M N e f = refl
row_sum-ext F x y (suc k) M N e f =
    ap₂ (λ (a b : ℕ). a ⊕ b) (row_sum-ext F x y k M N (λ i h. e i (omega arith)) (λ i h. f i (omega arith)))
    (ap₂ (mul F) (e k (omega arith)) (f k (omega arith)))

-- a combination of rows is a sum of rows
pub combined-rows : (x : List ℕ) (k : ℕ) (M : ℕ → ℕ) → combined ten x k M ≡ row_sum ten (λ i. get_or x i 0) k M
unfolding combined row_sum
combined-rows x zero M = refl
combined-rows x (suc k) M = rw (combined-rows x k M)

pub combined-ext : (x y : List ℕ) (k : ℕ) (M N : ℕ → ℕ) → ((i : ℕ) → i < k → get_or x i 0 ≡ get_or y i 0) → ((i : ℕ) → i < k → M i ≡ N i) → combined ten x k M ≡ combined ten y k N
unfolding combined
combined-ext x y zero M N e f = refl
combined-ext x y (suc k) M N e f =
    ap₂ (λ (a b : ℕ). a ⊕ b) (combined-ext x y k M N (λ i h. e i (omega arith)) (λ i h. f i (omega arith)))
    (ap₂ (mul ten) (e k (omega arith)) (f k (omega arith)))

pub el-identity : (s : Set) (i j : ℕ) → E s (identity i j) ≡ unit (K s) i j
el-identity s i j =
    at-or j i (λ e. rw (eq-eqb i j (sym e)) (sym (unit-same (K s) i j e))) (λ d. rw (ne_eqb i j (λ e. d (sym e))) (sym (unit-other (K s) i j d)))

pub identity-lt : (b d : ℕ) → identity b d < size ten
identity-lt b d = go (eqb b d)
  where
    go : (x : Bool) → pick x 1 0 < size ten
    go true = omega arith
    go false = omega arith
