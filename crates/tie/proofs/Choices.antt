-- The tests of the scheme's definitions, and the decisions of the theory.
use mathlib.Core.Path.{◌≡◌, refl, sym, ◌∙◌, subst}
use mathlib.Core.Bool.{Bool, true, false, not}
use Prim.Native.Nat.{ℕ, ◌≤◌, ◌<◌}
use native.Mathlib.Omega.{arith}
use native.Mathlib.Decide.{dec_lt, ℕ_discrete}
use lib.Dec.{T, ltb, leb, eqb, ltb→lt, nltb→le, leb→le, nleb→lt, eqb→eq, eqb_refl}
use Rattle.lists.specs.Loops.{pick}
use Rattle.theory.specs.Word as theory
use Rattle.theory.proofs.Place.{pick_yes, pick_no}

pub pick-lt : {B : Type 0} (f : ℕ → B) (a b : ℕ) {x y : ℕ} {p q : B} → f x ≡ p → f y ≡ q → f (pick (ltb a b) x y) ≡ theory.pick (dec_lt a b) p q
pick-lt {B} f a b {x} {y} {p} {q} ex ey = go (ltb a b) (ltb→lt a b) (nltb→le a b)
  where
    go : (r : Bool) → (T r → a < b) → (T (not r) → b ≤ a) → f (pick r x y) ≡ theory.pick (dec_lt a b) p q
    go true h g = ex ∙ sym (pick_yes (dec_lt a b) p q (h tt))
    go false h g = ey ∙ sym (pick_no (dec_lt a b) p q (let q : b ≤ a = g tt in λ l. omega arith))

pub pick-eq : {B : Type 0} (f : ℕ → B) (a b : ℕ) {x y : ℕ} {p q : B} → f x ≡ p → f y ≡ q → f (pick (eqb a b) x y) ≡ theory.pick (ℕ_discrete a b) p q
pick-eq {B} f a b {x} {y} {p} {q} ex ey = go (eqb a b) (eqb→eq a b) (λ e. subst (λ (c : ℕ). T (eqb a c)) e (eqb_refl a))
  where
    go : (r : Bool) → (T r → a ≡ b) → (a ≡ b → T r) → f (pick r x y) ≡ theory.pick (ℕ_discrete a b) p q
    go true h g = ex ∙ sym (pick_yes (ℕ_discrete a b) p q (h tt))
    go false h g = ey ∙ sym (pick_no (ℕ_discrete a b) p q g)

-- a test, and what it says
pub lt-true : (a b : ℕ) → ltb a b ≡ true → a < b
lt-true a b e = ltb→lt a b (rw e tt)

pub lt-false : (a b : ℕ) → ltb a b ≡ false → b ≤ a
lt-false a b e = nltb→le a b (rw e tt)

pub true-lt : (a b : ℕ) → a < b → ltb a b ≡ true
true-lt a b h = go (ltb a b) refl
  where
    go : (q : Bool) → ltb a b ≡ q → ltb a b ≡ true
    go true e = e
    go false e = let q : b ≤ a = lt-false a b e in absurd (omega arith)

pub le-true : (a b : ℕ) → leb a b ≡ true → a ≤ b
le-true a b e = leb→le a b (rw e tt)

pub true-le : (a b : ℕ) → a ≤ b → leb a b ≡ true
true-le a b h = go (leb a b) refl
  where
    go : (q : Bool) → leb a b ≡ q → leb a b ≡ true
    go true e = e
    go false e = let q : b < a = nleb→lt a b (rw e tt) in absurd (omega arith)
