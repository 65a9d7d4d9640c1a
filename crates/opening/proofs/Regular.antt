-- A matrix with a left inverse takes no vector but zero to zero; so W, beside which its inverse stands, is not singular.
use mathlib.Core.Path.{◌≡◌, sym, ap, ◌∙◌}
use mathlib.Core.List.{List}
use Prim.Native.Nat.{ℕ, zero, suc, ◌+◌, ◌*◌, ◌<◌}
use native.Mathlib.Omega.{arith}
use lib.ListN.{length, get_or}
use Rattle.theory.specs.Field.{Field}
use Rattle.theory.specs.Word.{unit, IsZero, NonZero}
use Rattle.theory.specs.Matrix.{Row, Mat, comb, LeftKer}
use Rattle.theory.proofs.Field.{zero-mul, mul_comm, zero-of-not}
use Rattle.theory.proofs.Place.{at-or}
use Rattle.theory.proofs.Sum.{sum-ext, sum-zero, unit-other}
use Rattle.theory.proofs.Singular.{left-of-right}
use Rattle.gf.specs.Ten.{ten}
use Rattle.gf.proofs.Elements.{El}
use Rattle.sets.specs.declared.Set.{Set}
use Rattle.scheme.specs.Keys.{Private}
use Rattle.scheme.specs.Opening.{Singular, W, places_i, places_t}
use Rattle.pairs.specs.Good as good
use Rattle.pairs.proofs.Solve.{inverse-solves}
use Rattle.tie.proofs.Bridge.{K, E, key_of}
use Rattle.tie.proofs.Regular.{IsRegular, singular-not}
use Rattle.opening.specs.Inverse.{HoldsInverse}
use Rattle.opening.proofs.RowSums.{row_sum-el, el-identity}

unit-turn : (F : Field) (i j : ℕ) → unit F i j ≡ unit F j i
unit-turn F i j = at-or i j (λ e. rw e) (λ d. unit-other F i j (λ e. d (sym e)) ∙ sym (unit-other F j i d))

-- a right kernel vector of the matrix, which a left one gives, would be the inverse times zero
pub inverse-regular : (F : Field) (u : ℕ) (B M : Mat F) → ((b c : ℕ) → b < u → c < u → comb F (B b) M u c ≡ unit F b c)
    → (y : Row F) → LeftKer F u u M y → IsZero F u y
unfolding comb
inverse-regular F zero B M e y k i l = absurd (omega arith)
inverse-regular F (suc q) B M e y k i l =
    zero-of-not F (y i) (λ d. go (left-of-right F q (λ a b. M b a) y (i, l, d) (λ b h. sum-ext F _ _ (suc q) (λ c g. mul_comm F _ _) ∙ k b h)))
  where
    turned : (b c : ℕ) → b < suc q → c < suc q → comb F (λ j. M j b) (λ j d. B d j) (suc q) c ≡ unit F b c
    turned b c hb hc = sum-ext F _ _ (suc q) (λ j h. mul_comm F _ _) ∙ e c b hc hb ∙ unit-turn F c b

    go : (v : Row F) × NonZero F (suc q) v × LeftKer F (suc q) (suc q) (λ a b. M b a) v → ⊥
    go (v, (p, hp, n), z) =
        n (sym (inverse-solves F (suc q) (λ b j. M j b) (λ j d. B d j) turned v p hp) ∙ sum-zero F _ (suc q) (λ j h. rw (z j h) (zero-mul F _)))

-- THEOREM (regular). Where the inverse stands beside W, W is not singular.
module _ (s : Set) (κ : Private) (m : List ℕ) (H : HoldsInverse s κ (length (places_i s κ)) m) where
  abbrev u : ℕ
  u = length (places_i s κ)

  abbrev M : ℕ → ℕ → El ten
  M = good.W (K s) s.k (key_of s κ).ge (λ a. get_or (places_i s κ) a 0) (λ b. get_or (places_t s κ) b 0)

  inverse : (b c : ℕ) → b < u → c < u → comb (K s) (λ j. E s (get_or m (b * (u + u) + (u + j)) 0)) M u c ≡ unit (K s) b c
  unfolding comb W
  inverse b c hb hc =
      sym (row_sum-el s (λ j. get_or m (b * (u + u) + (u + j)) 0) u (λ j. W s κ j c)) ∙ ap (E s) (H.inverse b c hb hc) ∙ el-identity s b c

  regular-W : IsRegular s κ
  regular-W y k = inverse-regular (K s) u (λ b j. E s (get_or m (b * (u + u) + (u + j)) 0)) M inverse y k

  pub regular : Singular s κ → ⊥
  regular = singular-not s κ regular-W
