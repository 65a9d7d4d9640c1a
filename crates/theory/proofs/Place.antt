-- Case splits on numbers, functions that differ at one place, distinct places.
use mathlib.Core.Path.{◌≡◌, refl, sym, ◌∙◌}
use mathlib.Core.Logic.{◌≢◌, ◌⊎◌, inl, inr}
use Prim.Native.Nat.{ℕ, zero, suc, ◌≤◌, ◌<◌}
use native.Mathlib.Omega.{arith}
use native.Mathlib.Decide.{ℕ_discrete, dec_lt}
use Rattle.theory.specs.Word.{pick, put, Places, Off}
use Rattle.theory.specs.Matrix.{swap}

pub pick_yes : {A B : Type 0} (d : Dec A) (x y : B) → A → pick d x y ≡ x
unfolding pick
pick_yes (yes a) x y h = refl
pick_yes (no n) x y h = absurd (n h)

pub pick_no : {A B : Type 0} (d : Dec A) (x y : B) → ¬ A → pick d x y ≡ y
unfolding pick
pick_no (yes a) x y n = absurd (n a)
pick_no (no m) x y n = refl

pub put_same : {B : Type 0} (f : ℕ → B) (p : ℕ) (v : B) (i : ℕ) → i ≡ p → put f p v i ≡ v
unfolding put
put_same f p v i e = pick_yes (ℕ_discrete i p) v (f i) e

pub put_other : {B : Type 0} (f : ℕ → B) (p : ℕ) (v : B) (i : ℕ) → i ≢ p → put f p v i ≡ f i
unfolding put
put_other f p v i n = pick_no (ℕ_discrete i p) v (f i) n

-- a case split on i ≡ p, as a term
pub at-or : {C : Type 0} (i p : ℕ) → (i ≡ p → C) → (i ≢ p → C) → C
at-or {C} i p f g = go (ℕ_discrete i p)
  where
    go : Dec (i ≡ p) → C
    go (yes e) = f e
    go (no n) = g n

-- a case split on i < m, as a term
pub below_or : {C : Type 0} (i m : ℕ) → (i < m → C) → (m ≤ i → C) → C
below_or {C} i m f g = go (dec_lt i m)
  where
    go : Dec (i < m) → C
    go (yes l) = f l
    go (no l) = g (omega arith)

-- what holds of i < j, and is symmetric, holds of i ≢ j
pub wlog : (R : ℕ → ℕ → Type 0) (n : ℕ) → ((i j : ℕ) → R i j → R j i) → ((i j : ℕ) → i < j → j < n → R i j) → (i j : ℕ) → i < n
    → j < n → i ≢ j → R i j
wlog R n s h i j a b d = go (dec_lt i j)
  where
    go : Dec (i < j) → R i j
    go (yes l) = h i j l b
    go (no l) = s j i (h j i (omega arith) a)

-- distinct in both orders
pub places-ne : (n r : ℕ) (p : ℕ → ℕ) → Places n r p → (l m : ℕ) → l < r → m < r → l ≢ m → p l ≢ p m
places-ne n r p Q = wlog (λ l m. p l ≢ p m) r (λ l m d e. d (sym e)) Q.apart

pub places-pred : (n r : ℕ) (p : ℕ → ℕ) → Places n (suc r) p → Places n r p
places-pred n r p Q =
    record { below = λ l k. Q.below l (omega arith); apart = λ l m k h. Q.apart l m k (omega arith) }

-- one of the places, with its number, or none
pub find-place : (r : ℕ) (p : ℕ → ℕ) (i : ℕ) → ((l : ℕ) × (l < r) × (i ≡ p l)) ⊎ Off r p i
find-place zero p i = inr (λ l k. absurd (omega arith))
find-place (suc r) p i = go (ℕ_discrete i (p r)) (find-place r p i)
  where
    go : Dec (i ≡ p r) → ((l : ℕ) × (l < r) × (i ≡ p l)) ⊎ Off r p i → ((l : ℕ) × (l < suc r) × (i ≡ p l)) ⊎ Off (suc r) p i
    go (yes e) f = inl (r, omega arith, e)
    go (no d) (inl (l, k, e)) = inl (l, omega arith, e)
    go (no d) (inr o) = inr (λ l k. at-or l r (λ e. rw e d) (λ n. o l (omega arith)))

pub swap-second : {B : Type 0} (f : ℕ → B) (i k : ℕ) → swap f i k k ≡ f i
unfolding swap
swap-second f i k = put_same _ k _ k refl

pub swap-first : {B : Type 0} (f : ℕ → B) (i k : ℕ) → i ≢ k → swap f i k i ≡ f k
unfolding swap
swap-first f i k d = put_other _ k _ i d ∙ put_same f i _ i refl

pub swap-other : {B : Type 0} (f : ℕ → B) (i k j : ℕ) → j ≢ i → j ≢ k → swap f i k j ≡ f j
unfolding swap
swap-other f i k j d e = put_other _ k _ j e ∙ put_other f i _ j d
