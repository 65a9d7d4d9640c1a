-- What a row operation does to each entry: rows have no place in common.
use mathlib.Core.Path.{◌≡◌, refl, sym, ◌∙◌}
use mathlib.Core.Logic.{⊎_elim, inl, inr, ◌≢◌}
use mathlib.Core.List.{List}
use Prim.Native.Nat.{ℕ, zero, suc, ◌+◌, ◌*◌, ◌<◌, ◌≤◌}
use native.Mathlib.Nat.{eq-or-lt_of_le, le_of_suc-le-suc, not-suc-le-zero, mul-le-mul_right, suc-mul}
use native.Mathlib.Omega.{arith}
use native.Mathlib.Decide.{dec_lt}
use lib.ListN.{length, get_or, set, length-set}
use lib.Seq.{get_or-set_same, get_or-set_other}
use Rattle.lists.specs.Loops.{turns}
use Rattle.gf.specs.Field.{Modulus, ◌⊕◌, mul}
use Rattle.gf.specs.Runs.{add_run, scale_run}
use Rattle.gf.proofs.Stores.{Off}
use Rattle.gf.proofs.Runs.{Clear, add-length, add-off, add_at, scale-length, scale-off, scale_at}
use Rattle.linear.specs.Matrix.{entry, swap_at, swap_run}

-- ---- two rows have no place in common
pub rows-off : (cols p q j : ℕ) → p ≢ q → j < cols → Off (p * cols) cols (q * cols + j)
rows-off cols p q j d h = go (dec_lt p q)
  where
    go : Dec (p < q) → Off (p * cols) cols (q * cols + j)
    go (yes lt) = let all : suc p * cols ≤ q * cols = mul-le-mul_right cols lt in inr (omega (arith, suc-mul p cols))
    go (no ge) =
        let gt : q < p = omega arith in
        let all : suc q * cols ≤ p * cols = mul-le-mul_right cols gt in
        inl (omega (arith, suc-mul q cols))

rows-clear : (cols p q : ℕ) → p ≢ q → Clear (p * cols) (q * cols) cols
rows-clear cols p q d = go (dec_lt p q)
  where
    go : Dec (p < q) → Clear (p * cols) (q * cols) cols
    go (yes lt) = let all : suc p * cols ≤ q * cols = mul-le-mul_right cols lt in inl (omega (arith, suc-mul p cols))
    go (no ge) =
        let gt : q < p = omega arith in
        let all : suc q * cols ≤ p * cols = mul-le-mul_right cols gt in
        inr (omega (arith, suc-mul q cols))

-- ---- f times row r, added to row i
module _ (F : Modulus) (cols i r f : ℕ) (l : List ℕ) where
  pub added-length : length (add_run F (i * cols) (r * cols) cols f l) ≡ length l
  added-length = add-length F (i * cols) (r * cols) cols f l

  pub added-there : i ≢ r → (j : ℕ) → j < cols → i * cols + cols ≤ length l → entry cols (add_run F (i * cols) (r * cols) cols f l) i j ≡ entry cols l i j ⊕ mul F f (entry cols l r j)
  added-there d j h fits = add_at F (i * cols) (r * cols) cols f l fits (rows-clear cols i r d) j h

  pub added-elsewhere : (p j : ℕ) → p ≢ i → j < cols → entry cols (add_run F (i * cols) (r * cols) cols f l) p j ≡ entry cols l p j
  added-elsewhere p j d h = add-off F (i * cols) (r * cols) cols f l (p * cols + j) (rows-off cols i p j (λ e. d (sym e)) h)

-- ---- row i, times f
module _ (F : Modulus) (cols i f : ℕ) (l : List ℕ) where
  pub scaled-length : length (scale_run F (i * cols) cols f l) ≡ length l
  scaled-length = scale-length F (i * cols) cols f l

  pub scaled-there : (j : ℕ) → j < cols → i * cols + cols ≤ length l → entry cols (scale_run F (i * cols) cols f l) i j ≡ mul F f (entry cols l i j)
  scaled-there j h fits = scale_at F (i * cols) cols f l fits j h

  pub scaled-elsewhere : (p j : ℕ) → p ≢ i → j < cols → entry cols (scale_run F (i * cols) cols f l) p j ≡ entry cols l p j
  scaled-elsewhere p j d h = scale-off F (i * cols) cols f l (p * cols + j) (rows-off cols i p j (λ e. d (sym e)) h)

-- ---- the runs from a and from b on, exchanged
module _ (a b : ℕ) where
  swap-length : (n : ℕ) (l : List ℕ) → length (turns (swap_at a b) n l) ≡ length l
  unfolding turns
  swap-length zero l = refl
  swap-length (suc n) l = simp length-set (swap-length n l)

  swap-outside : (n : ℕ) (l : List ℕ) (i : ℕ) → ((k : ℕ) → k < n → i ≢ a + k) → ((k : ℕ) → k < n → i ≢ b + k) → get_or (turns (swap_at a b) n l) i 0 ≡ get_or l i 0
  unfolding turns
  swap-outside zero l i na nb = refl
  swap-outside (suc n) l i na nb =
      let prev = turns (swap_at a b) n l in
      let y = get_or prev (b + n) 0 in
      get_or-set_other (set prev (a + n) y) (b + n) i (get_or prev (a + n) 0) 0 (nb n (omega arith))
      ∙ get_or-set_other prev (a + n) i y 0 (na n (omega arith))
      ∙ swap-outside n l i (λ k lt. na k (omega arith)) (λ k lt. nb k (omega arith))

  module _ (m : ℕ) (apart : (j k : ℕ) → j < m → k < m → a + j ≢ b + k) (l : List ℕ) (fa : a + m ≤ length l) (fb : b + m ≤ length l) where
    swap-inside : (n : ℕ) → n ≤ m → (k : ℕ) → k < n → (get_or (turns (swap_at a b) n l) (a + k) 0 ≡ get_or l (b + k) 0) × (get_or (turns (swap_at a b) n l) (b + k) 0 ≡ get_or l (a + k) 0)
    unfolding turns
    swap-inside zero le k h = absurd (not-suc-le-zero h)
    swap-inside (suc n) le k h =
        let prev = turns (swap_at a b) n l in
        let x = get_or prev (a + n) 0 in
        let y = get_or prev (b + n) 0 in
        let mid = set prev (a + n) y in
        let same = swap-length n l in
        let ra : a + n < length prev = omega arith in
        let rb : b + n < length mid = simp length-set (omega arith) in
        let was-a : x ≡ get_or l (a + n) 0 = swap-outside n l (a + n) (λ j lt e. absurd (omega arith)) (λ j lt e. apart n j (omega arith) (omega arith) e) in
        let was-b : y ≡ get_or l (b + n) 0 = swap-outside n l (b + n) (λ j lt e. apart j n (omega arith) (omega arith) (sym e)) (λ j lt e. absurd (omega arith)) in
        let before = swap-inside n (omega arith) k in
        ⊎_elim
        (λ (e : k ≡ n). rw e (
          get_or-set_other mid (b + n) (a + n) x 0 (apart n n (omega arith) (omega arith)) ∙ get_or-set_same prev (a + n) y 0 ra ∙ was-b,
          get_or-set_same mid (b + n) x 0 rb ∙ was-a,
        ))
        (λ (lt : k < n). (
          get_or-set_other mid (b + n) (a + k) x 0 (apart k n (omega arith) (omega arith)) ∙ get_or-set_other prev (a + n) (a + k) y 0 (omega arith) ∙ (before lt).0,
          get_or-set_other mid (b + n) (b + k) x 0 (omega arith) ∙ get_or-set_other prev (a + n) (b + k) y 0 (λ e. apart n k (omega arith) (omega arith) (sym e)) ∙ (before lt).1,
        ))
        (eq-or-lt_of_le (le_of_suc-le-suc h))

-- ---- rows a and b exchanged
module _ (cols a b : ℕ) (l : List ℕ) where
  pub swapped-length : length (swap_run (a * cols) (b * cols) cols l) ≡ length l
  unfolding swap_run
  swapped-length = swap-length (a * cols) (b * cols) cols l

  apart : (p q j k : ℕ) → p ≢ q → j < cols → k < cols → p * cols + j ≢ q * cols + k
  apart p q j k d hj hk e = ⊎_elim (λ (h : q * cols + k < p * cols). omega arith) (λ (h : p * cols + cols ≤ q * cols + k). omega arith) (rows-off cols p q k d hk)

  pub swapped-elsewhere : (p j : ℕ) → p ≢ a → p ≢ b → j < cols → entry cols (swap_run (a * cols) (b * cols) cols l) p j ≡ entry cols l p j
  unfolding swap_run
  swapped-elsewhere p j na nb h =
      swap-outside (a * cols) (b * cols) cols l (p * cols + j) (λ k lt. apart p a j k na h lt) (λ k lt. apart p b j k nb h lt)

  module _ (d : a ≢ b) (fa : a * cols + cols ≤ length l) (fb : b * cols + cols ≤ length l) where
    both : (j : ℕ) → j < cols → (entry cols (swap_run (a * cols) (b * cols) cols l) a j ≡ entry cols l b j) × (entry cols (swap_run (a * cols) (b * cols) cols l) b j ≡ entry cols l a j)
    unfolding swap_run
    both j h = swap-inside (a * cols) (b * cols) cols (λ j k. apart a b j k d) l fa fb cols (omega arith) j h

    pub swapped-first : (j : ℕ) → j < cols → entry cols (swap_run (a * cols) (b * cols) cols l) a j ≡ entry cols l b j
    swapped-first j h = (both j h).0

    pub swapped-second : (j : ℕ) → j < cols → entry cols (swap_run (a * cols) (b * cols) cols l) b j ≡ entry cols l a j
    swapped-second j h = (both j h).1
