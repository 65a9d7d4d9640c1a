-- Laws of `tab`: its length and elements, and the loop that fills a slice from the front.
use mathlib.Core.Path.{◌≡◌, refl, sym, ◌∙◌}
use mathlib.Core.List.{List, [], ◌∷◌, ◌++◌, append_assoc, append-nil}
use Prim.Native.Nat.{ℕ, zero, suc, ◌+◌, ◌≤◌, ◌<◌}
use native.Mathlib.Numerals.{add-one}
use native.Mathlib.Omega.{arith}
use native.Mathlib.Decide.{dec_lt}
use lib.Seq.{get_or_at, set_at, drop-cons, ext_get_or}
use lib.ListN.{length, get_or, drop, set, drop_of_length-le, length-append, get_or-append, get_or-eq_default}
use Rattle.lists.specs.Loops.{tab}

pub length-tab : (n : ℕ) (f : ℕ → ℕ) → length (tab n f) ≡ n
unfolding tab
length-tab zero f = refl
length-tab (suc n) f = rw (length-append, length-tab n f) (add-one n)

pub get_or-tab : (n : ℕ) (f : ℕ → ℕ) (i : ℕ) → i < n → get_or (tab n f) i 0 ≡ f i
unfolding tab
get_or-tab zero f i h = omega arith
get_or-tab (suc n) f i h = go (get_or-tab n f i) (dec_lt i n)
  where
    go : (i < n → get_or (tab n f) i 0 ≡ f i) → Dec (i < n) → get_or (tab n f ++ (f n ∷ [])) i 0 ≡ f i
    go r (yes l) = get_or-append (tab n f) (f n ∷ []) 0 i (rw length-tab l) ∙ r l
    go r (no g) = let e : i ≡ n = omega arith in rw e (get_or_at (tab n f) (f n) [] 0 n (length-tab n f))

-- two tables are equal where their entries are
pub tab-ext : (n : ℕ) (f g : ℕ → ℕ) → ((i : ℕ) → i < n → f i ≡ g i) → tab n f ≡ tab n g
unfolding tab
tab-ext zero f g e = refl
tab-ext (suc n) f g e = rw (tab-ext n f g (λ i h. e i (omega arith)), e n (omega arith))

-- a list whose elements are those of the table is the table: what a loop that fills a slice from the front leaves
pub tab_of : (n : ℕ) (f : ℕ → ℕ) (s : List ℕ) → length s ≡ n → ((i : ℕ) → i < n → get_or s i 0 ≡ f i) → s ≡ tab n f
tab_of n f s l e = ext_get_or 0 s (tab n f) (l ∙ sym (length-tab n f)) (λ i h. let lt : i < n = omega (arith, l) in e i lt ∙ sym (get_or-tab n f i lt))

-- ---- a slice that is filled from the front, one store a turn: its invariant is s ≡ tab i f ++ drop i s₀
pub tab-none : (f : ℕ → ℕ) (s₀ : List ℕ) → s₀ ≡ tab 0 f ++ drop 0 s₀
unfolding tab
tab-none f s₀ = refl

module _ (f : ℕ → ℕ) (s₀ s : List ℕ) (i : ℕ) (e : s ≡ tab i f ++ drop i s₀) (same : length s ≡ length s₀) where
  pub tab-more : (v : ℕ) → i < length s → v ≡ f i → set s i v ≡ tab (i + 1) f ++ drop (i + 1) s₀
  unfolding tab
  tab-more v h q =
      let l : i < length s₀ = omega arith in
      rw (q, e, drop-cons s₀ i 0 l, set_at (tab i f) (get_or s₀ i 0) (drop (suc i) s₀) (f i) i (length-tab i f), add-one, append_assoc)

  pub tab-done : (n : ℕ) → n ≡ length s₀ → i ≤ length s₀ → length s ≤ i → s ≡ tab n f
  tab-done n m h g =
      let q : i ≡ n = omega arith in
      let past : length s₀ ≤ i = omega arith in
      e ∙ rw (drop_of_length-le s₀ past, append-nil, q)

-- a list is the table of its elements
pub tab-get_or : (l : List ℕ) → l ≡ tab (length l) (λ i. get_or l i 0)
tab-get_or l = tab_of (length l) (λ i. get_or l i 0) l refl (λ i h. refl)

-- what holds of 0 and of each f i holds of each element, and of what is read past the end
pub all-tab : (P : ℕ → Type 0) (n : ℕ) (f : ℕ → ℕ) → P 0 → ((i : ℕ) → P (f i)) → (i : ℕ) → P (get_or (tab n f) i 0)
all-tab P n f z h i = go (dec_lt i n)
  where
    go : Dec (i < n) → P (get_or (tab n f) i 0)
    go (yes l) = rw get_or-tab (h i)
    go (no g) = let l : length (tab n f) ≤ i = rw length-tab (omega arith) in rw get_or-eq_default z
