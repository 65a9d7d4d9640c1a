-- The loops over rows and places: what a turn leaves.
use mathlib.Core.Path.{◌≡◌, refl, sym, ap, ◌∙◌}
use mathlib.Core.Logic.{◌≢◌}
use mathlib.Core.List.{List}
use Prim.Native.Nat.{ℕ, suc, ◌+◌, ◌-◌, ◌*◌, ◌≤◌, ◌<◌}
use native.Mathlib.Nat.{mul-le-mul_right, suc-mul}
use native.Mathlib.Numerals.{add-one}
use native.Mathlib.Omega.{arith}
use lib.ListN.{length, get_or, set, take, drop, length-take, length-drop}
use lib.Seq.{get_or-set_same, get_or-set_other, get_or-take, get_or-drop}
use Rattle.theory.proofs.Place.{at-or, below_or}
use Rattle.gf.specs.Field.{Modulus, ◌⊕◌, size, mul, power}
use Rattle.gf.proofs.Ring.{mul_comm, mul-one-right, power_zero, power-suc}
use Rattle.linear.specs.Matrix.{entry}
use Rattle.lists.specs.Parts.{Wrote, put}
use Rattle.lists.proofs.Writing.{wrote-lent}
use Rattle.code.specs.Stages.{Equation, PowerRows, Added}

-- ---- where a row and an entry lie
pub row_within : (i rows cols n : ℕ) → i < rows → rows * cols ≤ n → i * cols + cols ≤ n
row_within i rows cols n h fits =
    let all : suc i * cols ≤ rows * cols = mul-le-mul_right cols h in
    omega (arith, suc-mul i cols)

-- entries of different rows lie at different places
rows-apart : (a i cols b : ℕ) → a ≢ i → b < cols → (a * cols + b < i * cols → ⊥) → i * cols + cols ≤ a * cols + b
rows-apart a i cols b ne h later =
    below_or a i
    (λ lt. absurd (later (omega (arith, row_within a i cols (i * cols) lt (omega arith)))))
    (λ ge. let g : i < a = omega arith in omega (arith, row_within i a cols (a * cols) g (omega arith)))

-- ---- a part that is lent
-- its length and elements
pub cut-length : (a n : ℕ) (l : List ℕ) → a + n ≤ length l → length (take (a + n - a) (drop a l)) ≡ n
cut-length a n l h = let z : a + n - a ≡ n = omega arith in rw z (simp (length-take, length-drop) (omega arith))

pub cut-at : (a n : ℕ) (l : List ℕ) (b : ℕ) → b < n → get_or (take (a + n - a) (drop a l)) b 0 ≡ get_or l (a + b) 0
cut-at a n l b h = let z : a + n - a ≡ n = omega arith in rw z (get_or-take n (drop a l) b 0 h ∙ get_or-drop a l b 0)

-- what it leaves where it was written whole
pub lent-row : (a : ℕ) (l p left : List ℕ) → p ≡ left → a + length left ≤ length l → Wrote a (length left) (λ j. get_or left j 0) l (put a (a + length left - a) p l)
lent-row a l p left e fits = let z : a + length left - a ≡ length left = omega arith in rw (z, e) (wrote-lent a (length left) left l _ refl refl fits)

-- ---- a row of equations
pub equation : (i : ℕ) (left l : List ℕ) (right : ℕ) (l₁ l₂ : List ℕ) → i * (length left + 1) + (length left + 1) ≤ length l → Wrote (i * (length left + 1)) (length left) (λ j. get_or left j 0) l l₁
    → l₂ ≡ set l₁ (i * (length left + 1) + length left) right → Equation i left right l l₂
equation i left l right l₁ l₂ fits w e =
    let r = length left in
    let at = i * (r + 1) in
    rw e (record {
      coefficients = λ j h. get_or-set_other l₁ (at + r) (at + j) right 0 (omega arith) ∙ w.there j h;
      last = get_or-set_same l₁ (at + r) right 0 (omega (arith, w.long));
      others = λ a b ne h.
          get_or-set_other l₁ (at + r) (a * (r + 1) + b) right 0 (λ q. away a b ne h (omega arith) (omega arith))
          ∙ w.elsewhere (a * (r + 1) + b) (λ x y. away a b ne h x (omega arith));
    })
  where
    away : (a b : ℕ) → a ≢ i → b < length left + 1 → i * (length left + 1) ≤ a * (length left + 1) + b → a * (length left + 1) + b < i * (length left + 1) + (length left + 1) → ⊥
    away a b ne h x y = omega (arith, rows-apart a i (length left + 1) b ne h (λ z. omega arith))

-- a row of the key equations
pub key_more : (t i : ℕ) (sums left l l' : List ℕ) (right : ℕ) → Equation i left right l l' → length left ≡ t → ((b : ℕ) → b < t → get_or left b 0 ≡ get_or sums (i + b) 0) → right ≡ get_or sums (i + t) 0
    → ((a b : ℕ) → a < i → b < t + 1 → entry (t + 1) l a b ≡ get_or sums (a + b) 0) → (a b : ℕ) → a < i + 1 → b < t + 1 → entry (t + 1) l' a b ≡ get_or sums (a + b) 0
key_more t i sums left l l' right E e c r old a b h g =
    at-or a i
    (λ q. rw q (at-or b t
    (λ z. rw z (last ∙ r))
    (λ d. let lt : b < t = omega arith in here b lt ∙ c b lt)))
    (λ d. there a b d g ∙ old a b (omega arith) g)
  where
    last : entry (t + 1) l' i t ≡ right
    last = rw e at E.last

    here : (b : ℕ) → b < t → entry (t + 1) l' i b ≡ get_or left b 0
    here b h = rw e at (E.coefficients b (omega arith))

    there : (a b : ℕ) → a ≢ i → b < t + 1 → entry (t + 1) l' a b ≡ entry (t + 1) l a b
    there a b d h = rw e at (E.others a b d (omega arith))

-- ---- the equations for the values
pub first_power : (F : Modulus) (x : ℕ) → x < size F → x ≡ power F x (0 + 1)
first_power F x h =
    let z : suc 0 ≡ 0 + 1 = omega arith in
    sym (mul-one-right F x h) ∙ ap (mul F x) (sym (power_zero F x)) ∙ sym (power-suc F x 0) ∙ ap (power F x) z

pub next_power : (F : Modulus) (x n y : ℕ) → y ≡ power F x (n + 1) → mul F y x ≡ power F x (n + 1 + 1)
next_power F x n y e = rw (e, add-one (n + 1), mul_comm F (power F x (n + 1)) x) (sym (power-suc F x (n + 1)))

module _ (F : Modulus) (points sums : List ℕ) where
  pub power-rows-none : (l : List ℕ) → PowerRows F 0 points sums l
  power-rows-none l = record { there = λ i j h. absurd (omega arith); last = λ i h. absurd (omega arith) }

  pub power-rows-more : (i : ℕ) (next l l' : List ℕ) (x : ℕ) → PowerRows F i points sums l → length next ≡ length points → ((j : ℕ) → j < length points → get_or next j 0 ≡ power F (get_or points j 0) (i + 1)) → x ≡ get_or sums i 0 → Equation i next x l l' → PowerRows F (i + 1) points sums l'
  power-rows-more i next l l' x P e p s E =
      record {
        there = λ a j h g. at-or a i
            (λ q. rw q (here j g ∙ p j g))
            (λ d. there a j d (omega arith) ∙ P.there a j (omega arith) g);
        last = λ a h. at-or a i
            (λ q. rw q (last ∙ s))
            (λ d. there a (length points) d (omega arith) ∙ P.last a (omega arith));
      }
    where
      last : entry (length points + 1) l' i (length points) ≡ x
      last = rw e at E.last

      here : (b : ℕ) → b < length points → entry (length points + 1) l' i b ≡ get_or next b 0
      here b h = rw e at (E.coefficients b (omega arith))

      there : (a b : ℕ) → a ≢ i → b < length points + 1 → entry (length points + 1) l' a b ≡ entry (length points + 1) l a b
      there a b d h = rw e at (E.others a b d (omega arith))

-- ---- the values are added
pub added_none : (places values l : List ℕ) → Added places values 0 l l
added_none places values l = record { there = λ k h. absurd (omega arith); elsewhere = λ i o. refl }

pub added_more : (places values : List ℕ) (k : ℕ) (l₀ l : List ℕ) → Added places values k l₀ l → get_or places k 0 < length l → ((i : ℕ) → i < k → get_or places i 0 < get_or places k 0)
    → Added places values (k + 1) l₀ (set l (get_or places k 0) (get_or l (get_or places k 0) 0 ⊕ get_or values k 0))
added_more places values k l₀ l A fits rising =
    let p = get_or places k 0 in
    let x = get_or l p 0 ⊕ get_or values k 0 in
    record {
      there = λ j h. at-or j k
          (λ z. rw z (get_or-set_same l p x 0 fits ∙ ap (λ (u : ℕ). u ⊕ get_or values k 0) (A.elsewhere p (λ i g q. omega (arith, rising i g)))))
          (λ d. get_or-set_other l p (get_or places j 0) x 0 (λ q. omega (arith, rising j (omega arith))) ∙ A.there j (omega arith));
      elsewhere = λ i o. get_or-set_other l p i x 0 (o k (omega arith)) ∙ A.elsewhere i (λ j h. o j (omega arith));
    }
