-- A field of characteristic 2 (addition is exclusive or), as GF(2^m) is (RLCE-KEM specification of September 14, 2017, section 7.1), with a decidable zero. All of this
-- crate stands over such a record.
use Rattle.std.specs.Prelude.{◌≡◌, ◌≢◌}

pub record Field : Type 1 where
  pub F : Type 0
  pub 𝟎 : F
  pub 𝟏 : F
  pub add : F → F → F
  pub mul : F → F → F
  pub inv : F → F
  pub add_assoc : (a b c : F) → add (add a b) c ≡ add a (add b c)
  pub add_comm : (a b : F) → add a b ≡ add b a
  pub add_zero : (a : F) → add a 𝟎 ≡ a
  pub add_self : (a : F) → add a a ≡ 𝟎
  pub mul_assoc : (a b c : F) → mul (mul a b) c ≡ mul a (mul b c)
  pub mul_comm : (a b : F) → mul a b ≡ mul b a
  pub mul_one : (a : F) → mul a 𝟏 ≡ a
  pub distr : (a b c : F) → mul a (add b c) ≡ add (mul a b) (mul a c)
  pub mul_inv : (a : F) → a ≢ 𝟎 → mul a (inv a) ≡ 𝟏
  pub one_ne_zero : 𝟏 ≢ 𝟎
  pub dec : (a : F) → Dec (a ≡ 𝟎)
