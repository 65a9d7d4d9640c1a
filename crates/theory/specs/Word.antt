-- Words: functions from places to elements, looked at below a length. Sums, powers, weight (RLCE-KEM specification of September 14, 2017, section 6.3, step 21), distinct places.
use Rattle.std.specs.Prelude.{◌≡◌, ◌≢◌, ℕ, zero, suc, ◌+◌, ◌<◌}
use Rattle.std.proofs.Math.Decide.{ℕ_discrete}
use Rattle.theory.specs.Field.{Field}

-- x where the decision says yes, y where it says no
unfoldable pub pick : {A B : Type 0} → Dec A → B → B → B
pick (yes a) x y = x
pick (no n) x y = y

-- f, with the value v at the place p
unfoldable pub put : {B : Type 0} → (ℕ → B) → ℕ → B → ℕ → B
put f p v i = pick (ℕ_discrete i p) v (f i)

-- r distinct places below n: p 0, .., p (r - 1)
pub record Places (n r : ℕ) (p : ℕ → ℕ) : Type 0 where
  pub below : (l : ℕ) → l < r → p l < n
  pub apart : (l m : ℕ) → l < m → m < r → p l ≢ p m

-- the place i is none of them
abbrev pub Off : (r : ℕ) → (ℕ → ℕ) → ℕ → Type 0
Off r p i = (l : ℕ) → l < r → i ≢ p l

module _ (K : Field) where
  open K use {F, 𝟎, 𝟏, add as ◌⊕◌, mul as ◌⊗◌, dec}

  infixl 65 ◌⊕◌
  infixl 70 ◌⊗◌
  -- the word is zero at each of the first n places
  abbrev pub IsZero : ℕ → (ℕ → F) → Type 0
  IsZero n f = (i : ℕ) → i < n → f i ≡ 𝟎

  -- the word is not zero at one of the first n places, which is shown
  abbrev pub NonZero : ℕ → (ℕ → F) → Type 0
  NonZero n f = (p : ℕ) × (p < n) × (f p ≢ 𝟎)

  -- the unit word: one at the place i, zero elsewhere
  unfoldable pub unit : ℕ → ℕ → F
  unit i = put (λ j. 𝟎) i 𝟏

  -- f 0 + .. + f (n - 1)
  unfoldable pub sum : (ℕ → F) → ℕ → F
  sum f zero = 𝟎
  sum f (suc n) = sum f n ⊕ f n

  -- x to the j
  unfoldable pub pow : F → ℕ → F
  pow x zero = 𝟏
  pow x (suc j) = x ⊗ pow x j

  -- 0 of zero, 1 of every other element
  unfoldable pub nz : F → ℕ
  nz a = pick (dec a) 0 1

  -- the Hamming weight, as in section 6.3, step 21: how many of the first n places are not zero
  unfoldable pub wt : (ℕ → F) → ℕ → ℕ
  wt f zero = 0
  wt f (suc n) = wt f n + nz (f n)
