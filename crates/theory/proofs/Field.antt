-- The laws of a field, restated as lemmas, and `ring`, the set by which `simp` decides the equations of a field of characteristic 2.
use mathlib.Core.Path.{◌≡◌, sym, ap, ◌∙◌}
use mathlib.Core.Logic.{◌≢◌}
use Rattle.theory.specs.Field.{Field}

module _ (K : Field) where
  open K use {F, 𝟎, 𝟏, add as ◌⊕◌, mul as ◌⊗◌}

  infixl 65 ◌⊕◌
  infixl 70 ◌⊗◌
  -- the record's laws once more: a set lists lemmas, not fields
  pub add_assoc : (a b c : F) → a ⊕ b ⊕ c ≡ a ⊕ (b ⊕ c)
  add_assoc = K.add_assoc

  pub add_comm : (a b : F) → a ⊕ b ≡ b ⊕ a
  add_comm = K.add_comm

  pub add-zero : (a : F) → a ⊕ 𝟎 ≡ a
  add-zero = K.add_zero

  pub add-self : (a : F) → a ⊕ a ≡ 𝟎
  add-self = K.add_self

  pub mul_assoc : (a b c : F) → a ⊗ b ⊗ c ≡ a ⊗ (b ⊗ c)
  mul_assoc = K.mul_assoc

  pub mul_comm : (a b : F) → a ⊗ b ≡ b ⊗ a
  mul_comm = K.mul_comm

  pub mul-one : (a : F) → a ⊗ 𝟏 ≡ a
  mul-one = K.mul_one

  pub mul-add : (a b c : F) → a ⊗ (b ⊕ c) ≡ a ⊗ b ⊕ a ⊗ c
  mul-add = K.distr

  pub zero-add : (a : F) → 𝟎 ⊕ a ≡ a
  zero-add a = add_comm 𝟎 a ∙ add-zero a

  pub add_left_comm : (a b c : F) → a ⊕ (b ⊕ c) ≡ b ⊕ (a ⊕ c)
  add_left_comm a b c = sym (add_assoc a b c) ∙ ap (λ x. x ⊕ c) (add_comm a b) ∙ add_assoc b a c

  pub add-self-left : (a b : F) → a ⊕ (a ⊕ b) ≡ b
  add-self-left a b = sym (add_assoc a a b) ∙ ap (λ x. x ⊕ b) (add-self a) ∙ zero-add b

  pub mul_left_comm : (a b c : F) → a ⊗ (b ⊗ c) ≡ b ⊗ (a ⊗ c)
  mul_left_comm a b c = sym (mul_assoc a b c) ∙ ap (λ x. x ⊗ c) (mul_comm a b) ∙ mul_assoc b a c

  pub add-mul : (a b c : F) → (a ⊕ b) ⊗ c ≡ a ⊗ c ⊕ b ⊗ c
  add-mul a b c = mul_comm (a ⊕ b) c ∙ mul-add c a b ∙ rw (mul_comm c a, mul_comm c b)

  pub one-mul : (a : F) → 𝟏 ⊗ a ≡ a
  one-mul a = mul_comm 𝟏 a ∙ mul-one a

  pub mul-zero : (a : F) → a ⊗ 𝟎 ≡ 𝟎
  mul-zero a = ap (λ x. a ⊗ x) (sym (add-self 𝟎)) ∙ mul-add a 𝟎 𝟎 ∙ add-self (a ⊗ 𝟎)

  pub zero-mul : (a : F) → 𝟎 ⊗ a ≡ 𝟎
  zero-mul a = mul_comm 𝟎 a ∙ mul-zero a

  pub ruleset ring =
      (add_assoc, add_comm, add_left_comm, add-zero, zero-add, add-self, add-self-left, mul_assoc, mul_comm, mul_left_comm, mul-one, one-mul, mul-zero, zero-mul, mul-add, add-mul)

  -- a sum is zero only where its parts are equal
  pub eq-of-add : (a b : F) → a ⊕ b ≡ 𝟎 → a ≡ b
  eq-of-add a b h = sym (add-self-left b a) ∙ rw (add_comm b a, h, add-zero)

  pub mul-cancel : (a b : F) → a ≢ 𝟎 → a ⊗ b ≡ 𝟎 → b ≡ 𝟎
  mul-cancel a b n h =
      sym (one-mul b) ∙ rw (← (K.mul_inv a n), mul_comm a (K.inv a), mul_assoc, h, mul-zero)

  pub mul-ne-zero : (a b : F) → a ≢ 𝟎 → b ≢ 𝟎 → a ⊗ b ≢ 𝟎
  mul-ne-zero a b n m h = m (mul-cancel a b n h)

  pub add-ne-zero : (a b : F) → a ≢ b → a ⊕ b ≢ 𝟎
  add-ne-zero a b n h = n (eq-of-add a b h)

  -- equality is decided by the sum
  pub dec-eq : (a b : F) → Dec (a ≡ b)
  dec-eq a b = go (K.dec (a ⊕ b))
    where
      go : Dec (a ⊕ b ≡ 𝟎) → Dec (a ≡ b)
      go (yes h) = yes (eq-of-add a b h)
      go (no n) = no (λ e. n (rw (e, add-self)))

  pub zero-of-not : (a : F) → (a ≢ 𝟎 → ⊥) → a ≡ 𝟎
  zero-of-not a h = go (K.dec a)
    where
      go : Dec (a ≡ 𝟎) → a ≡ 𝟎
      go (yes e) = e
      go (no d) = absurd (h d)

  pub inv-ne-zero : (a : F) → a ≢ 𝟎 → K.inv a ≢ 𝟎
  inv-ne-zero a d e = K.one_ne_zero (sym (K.mul_inv a d) ∙ rw e (mul-zero a))
