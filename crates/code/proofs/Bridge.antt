-- From lists of numbers to the words of `theory`: power sums, values of polynomials, code words and distances.
use mathlib.Core.Path.{◌≡◌, sym, ap, ap₂, ◌∙◌}
use mathlib.Core.List.{List}
use Prim.Native.Nat.{ℕ, zero, suc, ◌*◌, ◌≤◌, ◌<◌}
use native.Mathlib.Nat as N
use native.Mathlib.Omega.{arith}
use native.Mathlib.Decide.{ℕ_discrete}
use lib.Dec.{eqb}
use lib.Pow.{pow_pos}
use lib.ListN.{length, get_or}
use borrow.Author.Tests.{eq-eqb, ne_eqb}
use Rattle.lists.specs.Loops.{pick}
use Rattle.theory.specs.Field.{Field}
use Rattle.theory.specs.Word.{sum, pow, nz, wt}
use Rattle.theory.specs.Code.{syn, IsCode, ev}
use Rattle.theory.proofs.Field.{add-self, eq-of-add}
use Rattle.theory.proofs.Sum.{sum-ext, sum-nil, sum-suc}
use Rattle.theory.proofs.Weight.{nz-zero, nz-one, nz-le}
use Rattle.gf.specs.Field.{Modulus, width, size, alpha}
use Rattle.gf.proofs.Xor.{add-lt}
use Rattle.gf.proofs.Ring.{mul-lt, power-alpha}
use Rattle.gf.proofs.Cyclic.{Cyclic}
use Rattle.gf.proofs.Elements.{El, el, field_of, plus, times, el-xor, el-mul, el-power, el-injective}
use Rattle.code.specs.Words.{sum_of, power_sum, CodeWord, apart}
use Rattle.code.proofs.Horner as numbers

-- ---- bounds
pub sum_lt : (F : Modulus) (n : ℕ) (c : ℕ → ℕ) (j : ℕ) → sum_of F n c j < size F
sum_lt F zero c j = rw numbers.sum-nil (pow_pos (width F))
sum_lt F (suc n) c j = rw numbers.sum-suc (add-lt (width F) _ _ (sum_lt F n c j) (mul-lt F _ _))

module _ (F : Modulus) (field : Cyclic F) where
  abbrev pub K : Field
  K = field_of F field

  -- the points of the code
  abbrev pub X : ℕ → El F
  X i = el F (alpha F i)

  -- a list as a word
  abbrev pub word : List ℕ → ℕ → El F
  word l i = el F (get_or l i 0)

  pub zero-of-el : (x : ℕ) → x < size F → el F x ≡ K.𝟎 → x ≡ 0
  zero-of-el x h e = el-injective F field x 0 h (pow_pos (width F)) e

  pub point-pow : (p j : ℕ) → pow K (X p) j ≡ el F (alpha F (p * j))
  point-pow p j = sym (el-power F field (alpha F p) j) ∙ ap (el F) (power-alpha F p j ∙ ap (alpha F) (N.mul_comm j p))

  -- ---- sums
  sum-el : (n : ℕ) (c : ℕ → ℕ) (j : ℕ) → el F (sum_of F n c j) ≡ sum K (λ i. times F (el F (c i)) (el F (alpha F (i * j)))) n
  sum-el zero c j = ap (el F) (numbers.sum-nil F c j) ∙ sym (sum-nil K _)
  sum-el (suc n) c j =
      ap (el F) (numbers.sum-suc F n c j) ∙ el-xor F field _ _ ∙ ap₂ (plus F) (sum-el n c j) (el-mul F field _ _) ∙ sym (sum-suc K _ n)

  pub sum-syn : (n : ℕ) (c : ℕ → ℕ) (j : ℕ) → el F (sum_of F n c j) ≡ syn K X n (λ i. el F (c i)) j
  unfolding syn
  sum-syn n c j = sum-el n c j ∙ sum-ext K _ _ n (λ i h. ap (times F (el F (c i))) (sym (point-pow i j)))

  -- the same number is the value at a point of the polynomial with these coefficients
  pub sum-ev : (n : ℕ) (c : ℕ → ℕ) (p : ℕ) → el F (sum_of F n c p) ≡ ev K (λ i. el F (c i)) n (X p)
  unfolding ev
  sum-ev n c p =
      sum-el n c p ∙ sum-ext K _ _ n (λ i h. ap (times F (el F (c i))) (ap (λ (x : ℕ). el F (alpha F x)) (N.mul_comm i p) ∙ sym (point-pow p i)))

  -- ---- code words
  pub code_is : (n s : ℕ) (c : List ℕ) → CodeWord F n s c → IsCode K X n s (word c)
  code_is n s c C j h = sym (sum-syn n (λ i. get_or c i 0) (suc j)) ∙ ap (el F) (C.sums j h)

  pub is_code : (n s : ℕ) (c : List ℕ) → length c ≡ n → ((i : ℕ) → i < n → get_or c i 0 < size F) → IsCode K X n s (word c) → CodeWord F n s c
  is_code n s c long small h =
      record {
        long = long;
        small = small;
        sums = λ j k. zero-of-el (power_sum F n c (suc j)) (sum_lt F n _ (suc j)) (sum-syn n (λ i. get_or c i 0) (suc j) ∙ h j k);
      }

  -- ---- distances
  nz-apart : (x y : ℕ) → nz K (plus F (el F x) (el F y)) ≤ pick (eqb x y) 0 1
  nz-apart x y = go (ℕ_discrete x y)
    where
      go : Dec (x ≡ y) → nz K (plus F (el F x) (el F y)) ≤ pick (eqb x y) 0 1
      go (yes e) = rw (eq-eqb x y e) (omega (arith, nz-zero K (plus F (el F x) (el F y)) (rw e (add-self K (el F y)))))
      go (no d) = rw (ne_eqb x y d) (nz-le K _)

  apart-nz : (x y : ℕ) → x < size F → y < size F → pick (eqb x y) 0 1 ≤ nz K (plus F (el F x) (el F y))
  apart-nz x y hx hy = go (ℕ_discrete x y)
    where
      go : Dec (x ≡ y) → pick (eqb x y) 0 1 ≤ nz K (plus F (el F x) (el F y))
      go (yes e) = rw (eq-eqb x y e) (omega arith)
      go (no d) =
          rw (ne_eqb x y d) (omega (arith, nz-one K (plus F (el F x) (el F y)) (λ e. d (el-injective F field x y hx hy (eq-of-add K _ _ e)))))

  pub wt-apart : (n : ℕ) (a b : List ℕ) → wt K (λ i. plus F (word a i) (word b i)) n ≤ apart n a b
  unfolding wt apart
  wt-apart zero a b = omega arith
  wt-apart (suc n) a b = omega (arith, wt-apart n a b, nz-apart (get_or a n 0) (get_or b n 0))

  pub apart-wt : (n : ℕ) (a b : List ℕ) → ((i : ℕ) → i < n → get_or a i 0 < size F) → ((i : ℕ) → i < n → get_or b i 0 < size F) → apart n a b ≤ wt K (λ i. plus F (word a i) (word b i)) n
  unfolding wt apart
  apart-wt zero a b ha hb = omega arith
  apart-wt (suc n) a b ha hb =
      omega (arith, apart-wt n a b (λ i h. ha i (omega arith)) (λ i h. hb i (omega arith)), apart-nz (get_or a n 0) (get_or b n 0) (ha n (omega arith)) (hb n (omega arith)))
