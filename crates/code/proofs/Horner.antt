-- Sums of c i·α^(ij): their clauses, Horner's rule, and the loop that computes m of them at once by it.
use mathlib.Core.Path.{◌≡◌, refl, sym, ap, ◌∙◌}
use mathlib.Core.List.{List}
use Prim.Native.Nat.{ℕ, zero, suc, ◌+◌, ◌-◌, ◌*◌, ◌≤◌, ◌<◌}
use native.Mathlib.Nat.{zero-mul, suc-mul}
use native.Mathlib.Omega.{arith}
use lib.ListN.{length, get_or, replicate, get_or-replicate, length-replicate}
use Rattle.gf.specs.Field.{Modulus, ◌⊕◌, size, mul, alpha}
use Rattle.gf.proofs.Xor.{sums}
use Rattle.gf.proofs.Ring.{mul_comm, mul_left_comm, mul-add-right, mul-zero-left, mul-one-right, alpha-add, alpha-zero}
use Rattle.code.specs.Words.{sum_of}
use Rattle.code.specs.Stages.{Elements, Powers, PowerSums}

module _ (F : Modulus) where
  pub sum-nil : (c : ℕ → ℕ) (j : ℕ) → sum_of F 0 c j ≡ 0
  unfolding sum_of
  sum-nil c j = refl

  pub sum-suc : (n : ℕ) (c : ℕ → ℕ) (j : ℕ) → sum_of F (suc n) c j ≡ sum_of F n c j ⊕ mul F (c n) (alpha F (n * j))
  unfolding sum_of
  sum-suc n c j = refl

  pub sum-ext : (n : ℕ) (c d : ℕ → ℕ) (j : ℕ) → ((i : ℕ) → i < n → c i ≡ d i) → sum_of F n c j ≡ sum_of F n d j
  sum-ext zero c d j e = sum-nil c j ∙ sym (sum-nil d j)
  sum-ext (suc n) c d j e =
      sum-suc n c j ∙ rw (sum-ext n c d j (λ i h. e i (omega arith)), e n (omega arith)) (sym (sum-suc n d j))

  -- α^j times the term number n is that of number n + 1
  term_up : (j n x : ℕ) → mul F (alpha F j) (mul F x (alpha F (n * j))) ≡ mul F x (alpha F (suc n * j))
  term_up j n x =
      let q : j + n * j ≡ suc n * j = omega (arith, suc-mul n j) in
      mul_left_comm F (alpha F j) x (alpha F (n * j)) ∙ ap (mul F x) (sym (alpha-add F j (n * j)) ∙ ap (alpha F) q)

  -- Horner's rule: the first term is c 0, of which only the digits of an element count
  pub sum_first : (n : ℕ) (c : ℕ → ℕ) (j : ℕ) → sum_of F (suc n) c j ≡ mul F (sum_of F n (λ i. c (suc i)) j) (alpha F j) ⊕ mul F (c 0) 1
  sum_first zero c j =
      sum-suc 0 c j ∙ rw (sum-nil c j, sum-nil (λ i. c (suc i)) j, mul-zero-left F (alpha F j), zero-mul j, alpha-zero F)
  sum_first (suc n) c j =
      sum-suc (suc n) c j ∙ ap (λ (x : ℕ). x ⊕ mul F (c (suc n)) (alpha F (suc n * j))) (sum_first n c j) ∙ step (sum_of F n (λ i. c (suc i)) j) ∙ ap (λ (x : ℕ). mul F x (alpha F j) ⊕ mul F (c 0) 1) (sym (sum-suc n (λ i. c (suc i)) j))
    where
      step : (s : ℕ) → mul F s (alpha F j) ⊕ mul F (c 0) 1 ⊕ mul F (c (suc n)) (alpha F (suc n * j)) ≡ mul F (s ⊕ mul F (c (suc n)) (alpha F (n * j))) (alpha F j) ⊕ mul F (c 0) 1
      step s =
          rw (← (term_up j n (c (suc n))), mul_comm F (s ⊕ mul F (c (suc n)) (alpha F (n * j))) (alpha F j), mul-add-right F (alpha F j) s (mul F (c (suc n)) (alpha F (n * j))), mul_comm F s (alpha F j))
          (simp sums)

  -- the same where c 0 is an element
  pub sum-horner : (n : ℕ) (c d : ℕ → ℕ) (j : ℕ) → c 0 < size F → ((i : ℕ) → i < n → c (suc i) ≡ d i) → sum_of F (suc n) c j ≡ mul F (sum_of F n d j) (alpha F j) ⊕ c 0
  sum-horner n c d j h e =
      sum_first n c j ∙ rw (sum-ext n (λ i. c (suc i)) d j e, mul-one-right F (c 0) h)

-- ---- the loop: the sums of the numbers from place i of the word on
pub record SumsFrom (F : Modulus) (word : List ℕ) (from i : ℕ) (l : List ℕ) : Type 0 where
  pub is : (j : ℕ) → j < length l → get_or l j 0 ≡ sum_of F (length word - i) (λ k. get_or word (i + k) 0) (from + j)

module _ (F : Modulus) (word : List ℕ) (from : ℕ) where
  pub sums-none : (i n : ℕ) (l : List ℕ) → l ≡ replicate n 0 → length word ≤ i → SumsFrom F word from i l
  sums-none i n l e h =
      let z : length word - i ≡ 0 = omega arith in
      record { is = λ j k. let lt : j < n = omega (arith, ap length e, length-replicate {A = ℕ} n 0) in rw (e, z) (get_or-replicate n j 0 0 lt ∙ sym (sum-nil F _ _)) }

  pub sums-more : (i : ℕ) (l l' powers : List ℕ) → SumsFrom F word from (i + 1) l → Powers F from powers → length powers ≡ length l → length l' ≡ length l → Elements F word → i < length word
      → ((j : ℕ) → j < length l → get_or l' j 0 ≡ mul F (get_or l j 0) (get_or powers j 0) ⊕ get_or word i 0) → SumsFrom F word from i l'
  sums-more i l l' powers S P lp ll small h step =
      let q : length word - i ≡ suc (length word - (i + 1)) = omega arith in
      let z : i + 0 ≡ i = omega arith in
      record {
        is = λ j k.
            let g : j < length l = omega arith in
            let p : j < length powers = omega arith in
            step j g ∙ rw (S.is j g, P.is j p, q) (sym (
            sum-horner F (length word - (i + 1)) (λ k. get_or word (i + k) 0) (λ k. get_or word (i + 1 + k) 0) (from + j) (rw z (small.small i h))
            (λ k g. ap (λ (x : ℕ). get_or word x 0) (omega arith)) ∙ rw z));
      }

  pub sums-all : (l : List ℕ) → SumsFrom F word from 0 l → PowerSums F word from l
  sums-all l S =
      let z : length word - 0 ≡ length word = omega arith in
      record { is = λ j h. S.is j h ∙ rw z (sum-ext F (length word) (λ k. get_or word (0 + k) 0) (λ k. get_or word k 0) (from + j) (λ k g. ap (λ (x : ℕ). get_or word x 0) (omega arith))) }
