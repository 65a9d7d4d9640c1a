-- What is sent is the word that the work area holds after the rows and the values were added; its entries are elements.
use mathlib.Core.Path.{◌≡◌, sym, ap, ◌∙◌}
use mathlib.Core.Bool.{Bool, true, false}
use mathlib.Core.List.{List, [], ◌∷◌}
use Prim.Native.Nat.{ℕ, zero, suc, ◌+◌, ◌-◌, ◌*◌, ◌^◌, ◌≤◌, ◌<◌}
use native.Mathlib.Omega.{arith}
use native.Mathlib.Decide.{dec_lt}
use borrow.Author.Tests.{lt-ltb, le-ltb}
use lib.Dec.{eqb, ltb}
use lib.Pow.{pow_pos}
use lib.ListN.{length, get_or, take, length-take, get_or-eq_default}
use lib.Seq.{get_or-take, ext_get_or}
use Rattle.lists.specs.Loops.{pick, tab}
use Rattle.lists.proofs.Tables.{length-tab, get_or-tab, all-tab}
use Rattle.gf.specs.Field.{Modulus, ◌⊕◌, mul, size, width}
use Rattle.gf.proofs.Xor.{add-lt}
use Rattle.gf.proofs.Ring.{mul-lt}
use Rattle.bits.specs.Bits.{elements_at, bytes_for, Small}
use Rattle.sets.specs.declared.Set.{Set}
use Rattle.sets.specs.Valid.{Valid}
use Rattle.scheme.specs.Field.{field_of}
use Rattle.scheme.specs.Keys.{public_ge}
use Rattle.scheme.specs.Sealing.{combined, encoded, error_at, sent}
use Rattle.sealing.specs.Steps.{Encoded, Added}

-- ---- the entries of a word are elements
pub combined-lt : (F : Modulus) (x : List ℕ) (k : ℕ) (M : ℕ → ℕ) → combined F x k M < size F
unfolding combined
combined-lt F x zero M = pow_pos (width F)
combined-lt F x (suc k) M = add-lt (width F) (combined F x k M) (mul F (get_or x k 0) (M k)) (combined-lt F x k M) (mul-lt F (get_or x k 0) (M k))

pub encoded-lt : (s : Set) (ge x : List ℕ) → s.m ≡ width (field_of s) → Small s.m x → (j : ℕ) → encoded s ge x j < 2 ^ s.m
unfolding encoded
encoded-lt s ge x e small j = go (ltb j s.k)
  where
    go : (b : Bool) → pick b (get_or x j 0) (combined (field_of s) x s.k (λ i. get_or ge (i * (s.n + s.w - s.k) + (j - s.k)) 0)) < 2 ^ s.m
    go true = small j
    go false = rw e (combined-lt (field_of s) x s.k (λ i. get_or ge (i * (s.n + s.w - s.k) + (j - s.k)) 0))

pub error_at-lt : (m : ℕ) (places values : List ℕ) (j : ℕ) → Small m values → error_at places values j < 2 ^ m
unfolding error_at
error_at-lt m [] values j small = pow_pos m
error_at-lt m (p ∷ places) [] j small = pow_pos m
error_at-lt m (p ∷ places) (v ∷ values) j small = go (eqb p j) (error_at-lt m places values j (λ i. small (suc i)))
  where
    go : (b : Bool) → error_at places values j < 2 ^ m → pick b v (error_at places values j) < 2 ^ m
    go true h = small 0
    go false h = h

pub sent-small : (s : Set) (ge x places values : List ℕ) → s.m ≡ width (field_of s) → Small s.m x → Small s.m values → Small s.m (sent s ge x places values)
unfolding sent
sent-small s ge x places values e sx sv =
    all-tab (λ y. y < 2 ^ s.m) (s.n + s.w) (λ j. encoded s ge x j ⊕ error_at places values j) (pow_pos s.m)
    (λ j. add-lt s.m (encoded s ge x j) (error_at places values j) (encoded-lt s ge x e sx j) (error_at-lt s.m places values j sv))

pub length-sent : (s : Set) (ge x places values : List ℕ) → length (sent s ge x places values) ≡ s.n + s.w
unfolding sent
length-sent s ge x places values = length-tab (s.n + s.w) (λ j. encoded s ge x j ⊕ error_at places values j)

pub take-small : (m n : ℕ) (l : List ℕ) → Small m l → Small m (take n l)
take-small m n l h i = at (dec_lt i n)
  where
    at : Dec (i < n) → get_or (take n l) i 0 < 2 ^ m
    at (yes k) = rw (get_or-take n l i 0 k) (h i)
    at (no k) = let past : length (take n l) ≤ i = simp length-take (omega arith) in rw (get_or-eq_default (take n l) 0 past) (pow_pos m)

-- ---- entry j of [I, GE] times the vector
pub encoded-front : (s : Set) (ge x : List ℕ) (j : ℕ) → j < s.k → encoded s ge x j ≡ get_or x j 0
unfolding encoded
encoded-front s ge x j h = rw (lt-ltb j s.k h)

pub encoded-back : (s : Set) (ge x : List ℕ) (c : ℕ) → encoded s ge x (s.k + c) ≡ combined (field_of s) x s.k (λ i. get_or ge (i * (s.n + s.w - s.k) + c) 0)
unfolding encoded
encoded-back s ge x c =
    let e : s.k + c - s.k ≡ c = omega arith in
    rw (le-ltb (s.k + c) s.k (omega arith), e)

module _ (s : Set) (v : Valid s) (key x w₁ : List ℕ) {k cols : ℕ} (k-is : k ≡ s.k) (cols-is : cols ≡ s.n + s.w - s.k) (x-long : length x ≡ s.k)
    (long : length w₁ ≡ s.n + s.w) (E' : Encoded (elements_at (k * cols) s.m key 8) x cols w₁) where
  E : Encoded (elements_at (s.k * (s.n + s.w - s.k)) s.m key 8) x (s.n + s.w - s.k) w₁
  E = rw (k-is, cols-is) at E'

  word_at : (j : ℕ) → j < s.n + s.w → get_or w₁ j 0 ≡ encoded s (public_ge s key) x j
  unfolding public_ge
  word_at j h = go (dec_lt j s.k)
    where
      go : Dec (j < s.k) → get_or w₁ j 0 ≡ encoded s (elements_at (s.k * (s.n + s.w - s.k)) s.m key 8) x j
      go (yes l) = E.vector j (omega (arith, x-long)) ∙ sym (encoded-front s (elements_at (s.k * (s.n + s.w - s.k)) s.m key 8) x j l)
      go (no l) =
          let q : s.k + (j - s.k) ≡ j = omega arith in
          let lt : j - s.k < s.n + s.w - s.k = omega arith in
          let r = (rw x-long at (E.sums (j - s.k) lt)) ∙ sym (encoded-back s (elements_at (s.k * (s.n + s.w - s.k)) s.m key 8) x (j - s.k)) in
          rw q at r

  module _ (places values w₂ : List ℕ) (A : Added places values 0 w₁ w₂) where
    pub word-is : w₂ ≡ sent s (public_ge s key) x places values
    unfolding sent
    word-is =
        let f : ℕ → ℕ = λ j. encoded s (public_ge s key) x j ⊕ error_at places values j in
        let n : length w₂ ≡ s.n + s.w = A.long ∙ long in
        ext_get_or 0 w₂ (tab (s.n + s.w) f) (n ∙ sym (length-tab (s.n + s.w) f))
        (λ j g. let h : j < s.n + s.w = omega (arith, n) in
        A.word j (omega (arith, long)) ∙ ap (λ (y : ℕ). y ⊕ error_at places values j) (word_at j h) ∙ sym (get_or-tab (s.n + s.w) f j h))

    pub pack_ready : (cipher : List ℕ) → s.m ≡ width (field_of s) → length cipher ≡ s.cipher → Small s.m x → Small s.m values
        → (8 ≤ s.m) × (s.m ≤ 16) × Small s.m w₂ × (length cipher ≡ bytes_for s.m (length w₂))
    pack_ready cipher e n sx sv = (
      v.narrow,
      v.wide,
      rw word-is (sent-small s (public_ge s key) x places values e sx sv),
      n ∙ v.cipher_is ∙ ap (bytes_for s.m) (sym (A.long ∙ long)),
    )
