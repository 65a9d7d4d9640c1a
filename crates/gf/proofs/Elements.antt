-- The elements of a modulus that is `Cyclic` are a field in the sense of the crate `theory`, and `el` takes the numbers that the code computes with there.
-- No law of `el` but the last two asks for a bound, since sums, products and powers of numbers past the field are those of their m low digits.
use mathlib.Core.Path.{◌≡◌, refl, sym, ap, ◌∙◌}
use mathlib.Core.Logic.{◌≢◌}
use mathlib.Core.HLevel.{Σ_prop_path, Σ_prop_discrete}
use Prim.Native.Nat.{ℕ, zero, suc, ◌%◌, ◌≤◌, ◌<◌}
use native.Mathlib.Nat.{mod-lt, mod-eq_of_lt}
use native.Mathlib.Omega.{arith}
use native.Mathlib.Bridge.{le_prop}
use native.Mathlib.Decide.{ℕ_discrete}
use lib.Pow.{pow_pos}
use Rattle.theory.specs.Field.{Field}
use Rattle.theory.specs.Word.{pow}
use Rattle.theory.specs.Code.{Points}
use Rattle.gf.specs.Field.{Modulus, width, size, order, ◌⊕◌, mul, power, alpha, inverse}
use Rattle.gf.proofs.Xor.{add_assoc, add_comm, add-self, zero_right, add-lt, add-mod}
use Rattle.gf.proofs.Ring.{one-lt, mul-lt, mul_comm, mul_assoc, mul-add-right, mul-one-right, mul_mod_left, mul_mod_right, power_zero, power-suc, power-mod, power-lt, inverse-lt, alpha-lt, alpha-power}
use Rattle.gf.proofs.Cyclic.{Cyclic, mul-inverse, alpha-pos}

-- an element: a number below 2 ^ m
abbrev pub El : Modulus → Type 0
El F = (x : ℕ) × (x < size F)

module _ (F : Modulus) where
  pub same : {a b : El F} → a.0 ≡ b.0 → a ≡ b
  same = Σ_prop_path (λ x. le_prop)

  -- the element that a number's m low digits are
  unfoldable pub el : ℕ → El F
  el x = (x % size F, mod-lt x (pow_pos (width F)))

  pub el-num : (x : ℕ) → x < size F → (el x).0 ≡ x
  unfolding el
  el-num x h = mod-eq_of_lt h

  pub num-el : (a : El F) → el a.0 ≡ a
  num-el a = same (el-num a.0 a.1)

  unfoldable pub plus : El F → El F → El F
  plus a b = (a.0 ⊕ b.0, add-lt (width F) a.0 b.0 a.1 b.1)

  unfoldable pub times : El F → El F → El F
  times a b = (mul F a.0 b.0, mul-lt F a.0 b.0)

  unfoldable pub inverted : El F → El F
  inverted a = (inverse F a.0, inverse-lt F a.0)

  pub plus_assoc : (a b d : El F) → plus (plus a b) d ≡ plus a (plus b d)
  unfolding plus
  plus_assoc a b d = same (add_assoc a.0 b.0 d.0)

  pub plus_comm : (a b : El F) → plus a b ≡ plus b a
  unfolding plus
  plus_comm a b = same (add_comm a.0 b.0)

  pub plus-zero : (a : El F) → plus a (el 0) ≡ a
  unfolding plus
  plus-zero a = same (ap (λ (x : ℕ). a.0 ⊕ x) (el-num 0 (pow_pos (width F))) ∙ zero_right a.0)

  pub plus-self : (a : El F) → plus a a ≡ el 0
  unfolding plus
  plus-self a = same (add-self a.0 ∙ sym (el-num 0 (pow_pos (width F))))

  pub times_assoc : (a b d : El F) → times (times a b) d ≡ times a (times b d)
  unfolding times
  times_assoc a b d = same (mul_assoc F a.0 b.0 d.0)

  pub times_comm : (a b : El F) → times a b ≡ times b a
  unfolding times
  times_comm a b = same (mul_comm F a.0 b.0)

  pub times-one : (a : El F) → times a (el 1) ≡ a
  unfolding times
  times-one a = same (ap (mul F a.0) (el-num 1 (one-lt F)) ∙ mul-one-right F a.0 a.1)

  pub times-plus : (a b d : El F) → times a (plus b d) ≡ plus (times a b) (times a d)
  unfolding times plus
  times-plus a b d = same (mul-add-right F a.0 b.0 d.0)

  nonzero : (a : El F) → a ≢ el 0 → 0 < a.0
  nonzero a d = go (ℕ_discrete a.0 0)
    where
      go : Dec (a.0 ≡ 0) → 0 < a.0
      go (yes e) = absurd (d (same (e ∙ sym (el-num 0 (pow_pos (width F))))))
      go (no n) = omega arith

  module _ (c : Cyclic F) where
    pub times-inverted : (a : El F) → a ≢ el 0 → times a (inverted a) ≡ el 1
    unfolding times inverted
    times-inverted a d = same (mul-inverse c a.0 (nonzero a d) a.1 ∙ sym (el-num 1 (one-lt F)))

    pub one_not_zero : el 1 ≢ el 0
    one_not_zero e =
        let q : ◌≡◌ {A = ℕ} 1 0 = sym (el-num 1 (one-lt F)) ∙ ap (λ (x : El F). x.0) e ∙ el-num 0 (pow_pos (width F)) in
        omega arith

    abbrev pub field_of : Field
    field_of = record {
      F = El F;
      𝟎 = el 0;
      𝟏 = el 1;
      add = plus;
      mul = times;
      inv = inverted;
      add_assoc = plus_assoc;
      add_comm = plus_comm;
      add_zero = plus-zero;
      add_self = plus-self;
      mul_assoc = times_assoc;
      mul_comm = times_comm;
      mul_one = times-one;
      distr = times-plus;
      mul_inv = times-inverted;
      one_ne_zero = one_not_zero;
      dec = λ a. Σ_prop_discrete (λ x. le_prop) ℕ_discrete a (el 0);
    }

    -- ---- from numbers to elements
    pub el-zero : el 0 ≡ field_of.𝟎
    el-zero = refl

    pub el-one : el 1 ≡ field_of.𝟏
    el-one = refl

    pub el-xor : (a b : ℕ) → el (a ⊕ b) ≡ field_of.add (el a) (el b)
    unfolding el plus
    el-xor a b = same (add-mod a b (width F))

    pub el-mul : (a b : ℕ) → el (mul F a b) ≡ field_of.mul (el a) (el b)
    unfolding el times
    el-mul a b =
        same (mod-eq_of_lt (mul-lt F a b) ∙ sym (mul_mod_left F a (b % size F) ∙ mul_mod_right F a b))

    pub el-inverse : (a : ℕ) → el (inverse F a) ≡ field_of.inv (el a)
    unfolding el inverted inverse
    el-inverse a = same (mod-eq_of_lt (power-lt F a _) ∙ sym (power-mod F a _))

    pub el-power : (a n : ℕ) → el (power F a n) ≡ pow field_of (el a) n
    unfolding pow
    el-power a zero = ap el (power_zero F a)
    el-power a (suc n) = ap el (power-suc F a n) ∙ el-mul a (power F a n) ∙ ap (times (el a)) (el-power a n)

    pub el-alpha : 0 < F.k → (i : ℕ) → el (alpha F i) ≡ pow field_of (el 2) i
    el-alpha h i = ap el (alpha-power F h i) ∙ el-power 2 i

    -- ---- and back
    pub el-injective : (a b : ℕ) → a < size F → b < size F → el a ≡ el b → a ≡ b
    el-injective a b ha hb e = sym (el-num a ha) ∙ ap (λ (x : El F). x.0) e ∙ el-num b hb

    pub el-nonzero : (a : ℕ) → 0 < a → a < size F → el a ≢ field_of.𝟎
    el-nonzero a pos h e = let q : a ≡ 0 = el-injective a 0 h (pow_pos (width F)) e in omega arith

    -- ---- the powers of α, up to the order, are points
    pub alpha-points : (n : ℕ) → n ≤ order F → Points field_of (λ i. el (alpha F i)) n
    alpha-points n h = record {
      distinct = λ i j hi hj d e. d (c.apart i j (omega arith) (omega arith) (el-injective (alpha F i) (alpha F j) (alpha-lt F i) (alpha-lt F j) e));
      nonzero = λ i hi. el-nonzero (alpha F i) (alpha-pos c i) (alpha-lt F i);
    }

    pub power-points : 0 < F.k → (n : ℕ) → n ≤ order F → Points field_of (pow field_of (el 2)) n
    power-points k n h =
        let p = alpha-points n h in
        record {
          distinct = λ i j hi hj d e. p.distinct i j hi hj d (el-alpha k i ∙ e ∙ sym (el-alpha k j));
          nonzero = λ i hi e. p.nonzero i hi (el-alpha k i ∙ e);
        }
