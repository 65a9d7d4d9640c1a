-- Powers, and the inverse by squares: a ^ (2 ^ m - 2) is the product of a ^ 2, a ^ 4, .., a ^ (2 ^ (m - 1)).
use mathlib.Core.Path.{◌≡◌, refl, sym, ap, ◌∙◌}
use Prim.Native.Nat.{ℕ, zero, suc, ◌+◌, ◌-◌, ◌*◌, ◌^◌, ◌<◌, ◌≤◌}
use native.Mathlib.Nat.{zero-mul, pow-suc}
use native.Mathlib.Omega.{arith}
use lib.Pow.{pow_pos}
use Rattle.gf.specs.Field.{Modulus, size, mul, power, inverse}
use Rattle.gf.proofs.Ring.{mul_assoc, mul-lt, mul-one-left, mul-one-right, one-lt}

-- the product of s ^ 2, s ^ 4, .., n of them
unfoldable pub squares : Modulus → ℕ → ℕ → ℕ
squares F zero s = 1
squares F (suc n) s = mul F (mul F s s) (squares F n (mul F s s))

module _ (F : Modulus) where
  power-square : (s e : ℕ) → power F (mul F s s) e ≡ power F s (e * 2)
  unfolding power
  power-square s zero = sym (ap (power F s) (zero-mul 2))
  power-square s (suc e) =
      ap (mul F (mul F s s)) (power-square s e) ∙ mul_assoc F s s (power F s (e * 2))
      ∙ ap (power F s) (doubled e)
    where
      doubled : (n : ℕ) → suc (suc (n * 2)) ≡ suc n * 2
      doubled n = omega arith

  squares-power : (n s : ℕ) → squares F n s ≡ power F s (2 ^ suc n - 2)
  unfolding squares power
  squares-power zero s = refl
  squares-power (suc n) s =
      ap (mul F (mul F s s)) (squares-power n (mul F s s))
      ∙ power-square s (suc (2 ^ suc n - 2))
      ∙ ap (power F s) (more (2 ^ n) (2 ^ suc n) (2 ^ suc (suc n)) (pow_pos n) (pow-suc 2 n) (pow-suc 2 (suc n)))
    where
      more : (x y z : ℕ) → 0 < x → y ≡ x * 2 → z ≡ y * 2 → suc (y - 2) * 2 ≡ z - 2
      more x y z h p q = omega arith

  squares-lt : (n s : ℕ) → squares F n s < size F
  unfolding squares
  squares-lt zero s = one-lt F
  squares-lt (suc n) s = mul-lt F (mul F s s) (squares F n (mul F s s))

  -- ---- a loop of n turns, with r multiplied up so far: before it, one turn, after it
  pub squares-all : (a : ℕ) → mul F 1 (squares F F.k a) ≡ inverse F a
  unfolding inverse
  squares-all a = mul-one-left F (squares F F.k a) (squares-lt F.k a) ∙ squares-power F.k a

  pub squares-more : (n i r s a r' s' : ℕ) → mul F r (squares F (n - i) s) ≡ inverse F a → i < n → s' ≡ mul F s s → r' ≡ mul F r s' → mul F r' (squares F (n - (i + 1)) s') ≡ inverse F a
  unfolding squares
  squares-more n i r s a r' s' e h p q =
      let left : n - i ≡ suc (n - (i + 1)) = omega arith in
      rw (q, p) (mul_assoc F r (mul F s s) (squares F (n - (i + 1)) (mul F s s)) ∙ (rw left at e))

  pub squares-end : (n i r s a : ℕ) → mul F r (squares F (n - i) s) ≡ inverse F a → r < size F → n ≤ i → r ≡ inverse F a
  unfolding squares
  squares-end n i r s a e h g =
      let none : n - i ≡ 0 = omega arith in
      sym (mul-one-right F r h) ∙ (rw none at e)
