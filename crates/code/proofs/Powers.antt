-- Powers of α: the next one is α times the last.
use mathlib.Core.Path.{◌≡◌, sym, ap, ap₂, ◌∙◌}
use Prim.Native.Nat.{ℕ, ◌+◌}
use native.Mathlib.Omega.{arith}
use Rattle.gf.specs.Field.{Modulus, mul, alpha}
use Rattle.gf.proofs.Ring.{alpha-add}

pub alpha-start : (F : Modulus) (from x : ℕ) → x ≡ alpha F from → x ≡ alpha F (from + 0)
alpha-start F from x e = let q : from ≡ from + 0 = omega arith in e ∙ ap (alpha F) q

pub alpha-next : (F : Modulus) (from i a x y : ℕ) → a ≡ alpha F 1 → x ≡ alpha F (from + i) → y ≡ mul F a x → y ≡ alpha F (from + (i + 1))
alpha-next F from i a x y p q e =
    let s : 1 + (from + i) ≡ from + (i + 1) = omega arith in
    e ∙ ap₂ (mul F) p q ∙ sym (alpha-add F 1 (from + i)) ∙ ap (alpha F) s
