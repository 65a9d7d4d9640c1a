-- The power sums of a word with values added at some places: they are those of the word before and what the values bring.
use mathlib.Core.Path.{◌≡◌, refl, sym, ap, ap₂, ◌∙◌}
use mathlib.Core.List.{List}
use Prim.Native.Nat.{ℕ, zero, suc, ◌+◌, ◌*◌, ◌≤◌, ◌<◌}
use native.Mathlib.Nat as N
use native.Mathlib.Numerals.{add-one}
use native.Mathlib.Omega.{arith}
use lib.Pow.{pow_pos}
use lib.ListN.{length, get_or, set}
use lib.Seq.{get_or-set_same, get_or-set_other}
use Rattle.theory.proofs.Place.{at-or}
use Rattle.theory.specs.Word.{Places, Off, sum, pow}
use Rattle.theory.specs.Code.{syn}
use Rattle.theory.proofs.Field.{add-self, add-self-left, zero-mul, add_comm}
use Rattle.theory.proofs.Sum.{sum-ext, sum-nil, sum-suc, sum-reindex}
use Rattle.theory.proofs.Distance.{syn-add}
use Rattle.gf.specs.Field.{Modulus, width, size, ◌⊕◌, mul, power, alpha}
use Rattle.gf.proofs.Xor.{add-lt}
use Rattle.gf.proofs.Ring.{mul-lt, mul_comm, mul_assoc, mul-one-right, power_zero, power-suc, power-alpha}
use Rattle.gf.proofs.Cyclic.{Cyclic}
use Rattle.gf.proofs.Elements.{El, el, plus, times, el-xor, el-mul, el-injective}
use Rattle.code.specs.Words.{sum_of}
use Rattle.code.specs.Stages.{total, brought}
use Rattle.code.proofs.Bridge.{K, X, point-pow, sum_lt, sum-syn}

-- ---- sums of numbers
pub total-none : (f : ℕ → ℕ) → 0 ≡ total 0 f
unfolding total
total-none f = refl

total-suc : (n : ℕ) (f : ℕ → ℕ) → total (suc n) f ≡ total n f ⊕ f n
unfolding total
total-suc n f = refl

pub total-more : (i : ℕ) (l : List ℕ) (x y : ℕ) → x ≡ total i (λ k. get_or l k 0) → y ≡ get_or l i 0 → x ⊕ y ≡ total (i + 1) (λ k. get_or l k 0)
total-more i l x y e q = rw (add-one i, e, q) (sym (total-suc i (λ k. get_or l k 0)))

pub total_ext : (n : ℕ) (f g : ℕ → ℕ) → ((k : ℕ) → k < n → f k ≡ g k) → total n f ≡ total n g
unfolding total
total_ext zero f g e = refl
total_ext (suc n) f g e = ap₂ ◌⊕◌ (total_ext n f g (λ k h. e k (omega arith))) (e n (omega arith))

-- what the values y 0, .., y (r - 1) at the places e 0, .., e (r - 1) bring to the power sum number j
abbrev pub value_sum : Modulus → ℕ → (ℕ → ℕ) → (ℕ → ℕ) → ℕ → ℕ
value_sum F r y e j = total r (λ k. mul F (y k) (alpha F (e k * j)))

value-lt : (F : Modulus) (r : ℕ) (y e : ℕ → ℕ) (j : ℕ) → value_sum F r y e j < size F
unfolding total
value-lt F zero y e j = pow_pos (width F)
value-lt F (suc r) y e j = add-lt (width F) _ _ (value-lt F r y e j) (mul-lt F _ _)

-- ---- the loop over the sums
-- no turn yet
pub product-none : (F : Modulus) (y x : ℕ) → y < size F → y ≡ mul F y (power F x 0)
product-none F y x h = sym (ap (mul F y) (power_zero F x) ∙ mul-one-right F y h)

-- one turn more
pub product-more : (F : Modulus) (y x j z : ℕ) → z ≡ mul F y (power F x j) → mul F z x ≡ mul F y (power F x (j + 1))
product-more F y x j z e = rw (e, add-one j) (mul_assoc F y (power F x j) x ∙ ap (mul F y) (mul_comm F (power F x j) x ∙ sym (power-suc F x j)))

-- the products, added up
pub brought-is : (F : Modulus) (y x l : List ℕ) (j n : ℕ) → length l ≡ length x → ((k : ℕ) → k < length x → get_or l k 0 ≡ mul F (get_or y k 0) (power F (get_or x k 0) (j + 1))) → n ≡ total (length l) (λ k. get_or l k 0) → n ≡ brought F y x (1 + j)
brought-is F y x l j n e p q =
    let s : j + 1 ≡ 1 + j = omega arith in
    q ∙ rw e (total_ext (length x) _ _ (λ k h. p k h ∙ ap (λ (i : ℕ). mul F (get_or y k 0) (power F (get_or x k 0) i)) s))

-- a sum is done, and those after it stay
pub sums-done : (F : Modulus) (y x : List ℕ) (j : ℕ) (s₀ s : List ℕ) (n : ℕ) → j < length s → ((i : ℕ) → i < j → get_or s i 0 ≡ get_or s₀ i 0 ⊕ brought F y x (1 + i)) → get_or s j 0 ≡ get_or s₀ j 0 → n ≡ brought F y x (1 + j)
    → (i : ℕ) → i < j + 1 → get_or (set s j (get_or s j 0 ⊕ n)) i 0 ≡ get_or s₀ i 0 ⊕ brought F y x (1 + i)
sums-done F y x j s₀ s n lt done here e i h =
    at-or i j
    (λ q. rw q (get_or-set_same s j (get_or s j 0 ⊕ n) 0 lt ∙ ap₂ ◌⊕◌ here e))
    (λ d. get_or-set_other s j i (get_or s j 0 ⊕ n) 0 d ∙ done i (omega arith))

pub sums-rest : (j : ℕ) (s₀ s : List ℕ) (v : ℕ) → ((i : ℕ) → j ≤ i → get_or s i 0 ≡ get_or s₀ i 0) → (i : ℕ) → j + 1 ≤ i → get_or (set s j v) i 0 ≡ get_or s₀ i 0
sums-rest j s₀ s v rest i h = get_or-set_other s j i v 0 (omega arith) ∙ rest i (omega arith)

-- at the points of places
pub brought-sum : (F : Modulus) (y x : List ℕ) (e : ℕ → ℕ) (j : ℕ) → ((k : ℕ) → k < length x → get_or x k 0 ≡ alpha F (e k)) → brought F y x j ≡ value_sum F (length x) (λ k. get_or y k 0) e j
brought-sum F y x e j p =
    total_ext (length x) _ _ (λ k h. ap (mul F (get_or y k 0)) (ap (λ (z : ℕ). power F z j) (p k h) ∙ power-alpha F (e k) j ∙ ap (alpha F) (N.mul_comm j (e k))))

-- ---- a word b that is the word a with values added at r places
module _ (F : Modulus) (field : Cyclic F) where
  value-el : (r : ℕ) (y p : ℕ → ℕ) (j : ℕ) → el F (value_sum F r y p j) ≡ sum (K F field) (λ k. times F (el F (y k)) (pow (K F field) (X F field (p k)) j)) r
  unfolding total
  value-el zero y p j = sym (sum-nil (K F field) _)
  value-el (suc r) y p j =
      el-xor F field _ _
      ∙ ap₂ (plus F) (value-el r y p j) (el-mul F field _ _ ∙ ap (times F (el F (y r))) (sym (point-pow F field (p r) j)))
      ∙ sym (sum-suc (K F field) _ r)

  module _ (n r : ℕ) (a b y p : ℕ → ℕ) (Q : Places n r p) (on : (k : ℕ) → k < r → b (p k) ≡ a (p k) ⊕ y k) (off : (i : ℕ) → i < n → Off r p i → b i ≡ a i) (j : ℕ) where
    -- what was added
    abbrev d : ℕ → El F
    d i = plus F (el F (a i)) (el F (b i))

    d-on : (k : ℕ) → k < r → d (p k) ≡ el F (y k)
    d-on k h = ap (λ (x : ℕ). plus F (el F (a (p k))) (el F x)) (on k h) ∙ ap (plus F (el F (a (p k)))) (el-xor F field _ _) ∙ add-self-left (K F field) _ _

    d-off : (i : ℕ) → i < n → Off r p i → d i ≡ (K F field).𝟎
    d-off i h o = ap (λ (x : ℕ). plus F (el F (a i)) (el F x)) (off i h o) ∙ add-self (K F field) _

    d-sum : syn (K F field) (X F field) n d j ≡ el F (value_sum F r y p j)
    unfolding syn
    d-sum =
        sum-reindex (K F field) r (λ i. times F (d i) (pow (K F field) (X F field i) j)) n p Q (λ i h o. ap (λ (x : El F). times F x (pow (K F field) (X F field i) j)) (d-off i h o) ∙ zero-mul (K F field) _)
        ∙ sum-ext (K F field) _ _ r (λ k h. ap (λ (x : El F). times F x (pow (K F field) (X F field (p k)) j)) (d-on k h))
        ∙ sym (value-el r y p j)

    pub added-sum : sum_of F n a j ≡ sum_of F n b j ⊕ value_sum F r y p j
    added-sum =
        let A = syn (K F field) (X F field) n (λ i. el F (a i)) j in
        let B = syn (K F field) (X F field) n (λ i. el F (b i)) j in
        el-injective F field _ _ (sum_lt F n a j) (add-lt (width F) _ _ (sum_lt F n b j) (value-lt F r y p j))
        (sum-syn F field n a j
        ∙ sym (add-self-left (K F field) B A)
        ∙ ap (plus F B) (add_comm (K F field) B A ∙ sym (syn-add (K F field) (X F field) n (λ i. el F (a i)) (λ i. el F (b i)) j) ∙ d-sum)
        ∙ ap (λ (x : El F). plus F x (el F (value_sum F r y p j))) (sym (sum-syn F field n b j))
        ∙ sym (el-xor F field _ _))
