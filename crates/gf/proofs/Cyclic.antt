-- The ring is a field where the powers of α reach every number from 1 up to 2 ^ m - 1: `Cyclic`, which one computed test shows of each modulus.
use mathlib.Core.Path.{◌≡◌, refl, sym, ap, ap₂, ◌∙◌}
use Prim.Native.Nat.{ℕ, zero, suc, ◌+◌, ◌-◌, ◌*◌, ◌/◌, ◌%◌, ◌^◌, ◌≤◌, ◌<◌}
use native.Mathlib.Nat.{zero-mul, suc-mul, zero-lt-suc, mod-add-div', add-sub_of_le}
use native.Mathlib.Nat as N
use native.Mathlib.Omega.{arith}
use native.Mathlib.Decide.{ℕ_discrete}
use lib.Pow.{pow_pos, pow-lt}
use Rattle.gf.specs.Field.{Modulus, width, size, order, shift, mul, power, alpha, inverse, Logarithm}
use Rattle.gf.proofs.Ring.{mul_comm, mul_assoc, mul-zero-right, mul-one-left, inverse-lt, alpha-lt, alpha-zero, shift-add, alpha-add, power-alpha}

-- the powers of α come back to 1 after `order F` places, reach each number but 0, and are all different before that
pub record Cyclic (F : Modulus) : Type 0 where
  pub turn : alpha F (order F) ≡ 1
  pub log : (a : ℕ) → 0 < a → a < size F → (i : ℕ) × Logarithm F a i
  pub apart : (i j : ℕ) → i < order F → j < order F → alpha F i ≡ alpha F j → i ≡ j

pub order-pos : (F : Modulus) → 0 < order F
order-pos F = let h : 1 < 2 ^ width F = pow-lt (zero-lt-suc F.k) in omega arith

order_is : (F : Modulus) → suc (size F - 2) ≡ order F
order_is F = let h : 1 < 2 ^ width F = pow-lt (zero-lt-suc F.k) in omega arith

module _ {F : Modulus} (f : Cyclic F) where
  round : (n : ℕ) → alpha F (n * order F) ≡ 1
  round zero = ap (λ (x : ℕ). alpha F x) (zero-mul (order F)) ∙ alpha-zero F
  round (suc n) =
      ap (λ (x : ℕ). alpha F x) (suc-mul n (order F)) ∙ shift-add F (n * order F) (order F) 1
      ∙ ap (shift F (n * order F)) f.turn ∙ round n

  -- the exponent counts modulo the order
  pub alpha-mod : (n : ℕ) → alpha F (n % order F) ≡ alpha F n
  alpha-mod n =
      ap (shift F (n % order F)) (sym (round (n / order F)))
      ∙ sym (shift-add F (n % order F) (n / order F * order F) 1)
      ∙ ap (λ (x : ℕ). alpha F x) (mod-add-div' n (order F))

  -- every element but 0, to the order, is 1
  power-order : (i : ℕ) → power F (alpha F i) (order F) ≡ 1
  power-order i = power-alpha F i (order F) ∙ ap (λ (x : ℕ). alpha F x) (N.mul_comm (order F) i) ∙ round i

  pub mul-inverse : (a : ℕ) → 0 < a → a < size F → mul F a (inverse F a) ≡ 1
  unfolding inverse power
  mul-inverse a pos h =
      let i = f.log a pos h in
      ap (power F a) (order_is F) ∙ ap (λ (x : ℕ). power F x (order F)) (sym i.1.is) ∙ power-order i.0

  -- no power of α is 0: a number of turns later it would be 1
  pub alpha-pos : (i : ℕ) → 0 < alpha F i
  alpha-pos i = go (alpha F i) refl
    where
      zero_one : alpha F i ≡ 0 → ◌≡◌ {A = ℕ} 0 1
      zero_one e =
          sym (mul-zero-right F (alpha F (i * order F - i))) ∙ ap (mul F (alpha F (i * order F - i))) (sym e)
          ∙ sym (alpha-add F (i * order F - i) i)
          ∙ ap (λ (x : ℕ). alpha F x) (N.sub-add_cancel (N.le-mul_of_pos_right i (order-pos F))) ∙ round i

      go : (n : ℕ) → alpha F i ≡ n → 0 < n
      go zero e = let z : ◌≡◌ {A = ℕ} 0 1 = zero_one e in absurd (omega arith)
      go (suc n) e = zero-lt-suc n

  -- times a, and divided by a
  pub divided : (a b : ℕ) → 0 < a → a < size F → b < size F → mul F (inverse F a) (mul F a b) ≡ b
  divided a b pos ha hb =
      sym (mul_assoc F (inverse F a) a b)
      ∙ ap (λ (x : ℕ). mul F x b) (mul_comm F (inverse F a) a ∙ mul-inverse a pos ha)
      ∙ mul-one-left F b hb

  pub mul-cancel : (a b c : ℕ) → 0 < a → a < size F → b < size F → c < size F → mul F a b ≡ mul F a c → b ≡ c
  mul-cancel a b c pos ha hb hc e =
      sym (divided a b pos ha hb) ∙ ap (mul F (inverse F a)) e ∙ divided a c pos ha hc

  -- no zero divisors
  pub mul-eq-zero : (a b : ℕ) → 0 < a → a < size F → b < size F → mul F a b ≡ 0 → b ≡ 0
  mul-eq-zero a b pos ha hb e =
      mul-cancel a b 0 pos ha hb (pow_pos (width F)) (e ∙ sym (mul-zero-right F a))

  -- the inverse is the only one
  pub inverse-only : (a b : ℕ) → 0 < a → a < size F → b < size F → mul F a b ≡ 1 → b ≡ inverse F a
  inverse-only a b pos ha hb e =
      mul-cancel a b (inverse F a) pos ha hb (inverse-lt F a) (e ∙ sym (mul-inverse a pos ha))

  pub mul-pos : (a b : ℕ) → 0 < a → a < size F → 0 < b → b < size F → 0 < mul F a b
  mul-pos a b pa ha pb hb = go (ℕ_discrete (mul F a b) 0)
    where
      go : Dec (mul F a b ≡ 0) → 0 < mul F a b
      go (yes e) = let z = mul-eq-zero a b pa ha hb e in absurd (omega arith)
      go (no d) = omega arith

  pub inverse-pos : (a : ℕ) → 0 < a → a < size F → 0 < inverse F a
  inverse-pos a pos h = go (ℕ_discrete (inverse F a) 0)
    where
      go : Dec (inverse F a ≡ 0) → 0 < inverse F a
      go (yes e) =
          let z : ◌≡◌ {A = ℕ} 0 1 = sym (mul-zero-right F a) ∙ ap (mul F a) (sym e) ∙ mul-inverse a pos h in
          absurd (omega arith)
      go (no d) = omega arith

  pub inverse-inverse : (a : ℕ) → 0 < a → a < size F → inverse F (inverse F a) ≡ a
  inverse-inverse a pos h =
      sym (inverse-only (inverse F a) a (inverse-pos a pos h) (inverse-lt F a) h
      (mul_comm F (inverse F a) a ∙ mul-inverse a pos h))

  pub inverse-alpha : (i : ℕ) → i ≤ order F → inverse F (alpha F i) ≡ alpha F (order F - i)
  inverse-alpha i h =
      sym (inverse-only (alpha F i) (alpha F (order F - i)) (alpha-pos i) (alpha-lt F i) (alpha-lt F (order F - i))
      (sym (alpha-add F i (order F - i)) ∙ ap (λ (x : ℕ). alpha F x) (add-sub_of_le h) ∙ f.turn))

  -- ---- by logarithms
  pub mul-log : {a b i j : ℕ} → Logarithm F a i → Logarithm F b j → alpha F ((i + j) % order F) ≡ mul F a b
  mul-log {a} {b} {i} {j} p q = alpha-mod (i + j) ∙ alpha-add F i j ∙ ap₂ (mul F) p.is q.is

  -- a number has one logarithm at most
  pub log-only : {a i j : ℕ} → Logarithm F a i → Logarithm F a j → i ≡ j
  log-only {a} {i} {j} p q = f.apart i j p.below q.below (p.is ∙ sym q.is)
