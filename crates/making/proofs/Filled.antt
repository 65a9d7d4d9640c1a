-- The entries that are computed are those of the matrix that is reduced, and it lies row after row.
use Rattle.std.proofs.Common.{◌≡◌, refl, sym, ap, ◌∙◌, ℕ, zero, suc, ◌+◌, ◌-◌, ◌*◌, ◌/◌, ◌%◌, ◌≤◌, ◌<◌, Bool, true, false, List, ◌++◌, length, get_or, take, drop, append-nil, append_assoc, zero-mul, arith}
use native.Mathlib.Nat.{add-zero, add-suc, add-mul, mul-le-mul_right}
use lib.Dec.{ltb}
use lib.Arith.{digits_div, digits_mod}
use lib.ListN.{get_or-eq_default}
use lib.Seq.{get_or-take, get_or-drop, ext_get_or}
use borrow.Author.Tests.{lt-ltb, le-ltb}
use Rattle.lists.specs.Loops.{pick, tab}
use Rattle.lists.proofs.Tables.{length-tab, get_or-tab, tab-ext}
use Rattle.gf.specs.Field.{Modulus, ◌⊕◌, size, mul, width}
use Rattle.gf.specs.Runs.{row_times}
use Rattle.gf.specs.Ten.{ten}
use Rattle.gf.proofs.Rows.{row_times-at}
use Rattle.gf.proofs.Ring.{mul-lt, mul-zero-left}
use Rattle.gf.proofs.Xor.{add-lt}
use Rattle.sets.specs.declared.Set.{Set}
use Rattle.code.specs.Generator.{with_root, generator}
use Rattle.linear.specs.Matrix.{Matrix}
use Rattle.linear.proofs.Laws.{tab-matrix}
use Rattle.scheme.specs.Matrices.{listed, scale_columns, permute_columns, join_columns, multiply_pairs}
use Rattle.scheme.specs.Matrices.{Matrix as Entries}
use Rattle.scheme.specs.Setup.{drawn, G0, multipliers, random_matrix, chain}
use Rattle.making.specs.Filling.{scaled, permuted, mixed}
use Rattle.making.proofs.Lists.{take_put}

-- ---- the generator matrix
pub length-generator : (F : Modulus) (n : ℕ) → length (generator F n) ≡ suc n
unfolding generator with_root
length-generator F zero = refl
length-generator F (suc n) = length-tab (suc (length (generator F n))) _ ∙ ap suc (length-generator F n)

module _ (s : Set) (random : List ℕ) (i j : ℕ) where
  pub scaled_before : j < i → 0 ≡ scaled s random i j
  unfolding G0
  scaled_before h = sym (rw (lt-ltb j i h) (mul-zero-left ten (get_or (multipliers s random) j 0)))

  pub scaled_past : i ≤ j → s.n - s.k + 1 ≤ j - i → 0 ≡ scaled s random i j
  unfolding G0
  scaled_past h g =
      let none : get_or (generator ten (s.n - s.k)) (j - i) 0 ≡ 0 = get_or-eq_default (generator ten (s.n - s.k)) 0 (rw length-generator (omega arith)) in
      sym (rw (le-ltb j i h, none) (mul-zero-left ten (get_or (multipliers s random) j 0)))

  pub scaled_at : i ≤ j → (g v : List ℕ) → g ≡ generator ten (s.n - s.k) → v ≡ multipliers s random → j - i < length g
      → get_or (row_times ten (take (length g) (drop i v)) g) (j - i) 0 ≡ scaled s random i j
  unfolding G0
  scaled_at h g v eg ev lt =
      let at : i + (j - i) ≡ j = omega arith in
      let column : get_or (take (length g) (drop i v)) (j - i) 0 ≡ get_or (multipliers s random) j 0 =
      get_or-take (length g) (drop i v) (j - i) 0 lt ∙ get_or-drop i v (j - i) 0 ∙ rw (at, ev) in
      row_times-at ten (take (length g) (drop i v)) g (j - i) lt ∙ rw (column, eg, le-ltb j i h)

pub mixed_is : (s : Set) (random A : List ℕ) (i e side x y p q : ℕ) → x ≡ permuted s random i (s.n - s.w + e)
    → y ≡ get_or (drawn s random) (s.n + 4 * s.w + 25 + e * s.k + i) 0
    → p ≡ mul ten x (get_or A (4 * e + side) 0) → q ≡ mul ten y (get_or A (4 * e + 2 + side) 0) → p ⊕ q ≡ mixed s random A i e side
unfolding random_matrix
mixed_is s random A i e side x y p q ex ey ep eq =
    let upper : 4 * e + 2 * 0 + side ≡ 4 * e + side = omega arith in
    let lower : 4 * e + 2 * 1 + side ≡ 4 * e + 2 + side = omega arith in
    rw (upper, lower, ep, eq, ex, ey)

-- ---- the chain
-- the columns of a pair
module _ (d e : ℕ) (R M : Entries) (i : ℕ) where
  join-left : join_columns d R M i (d + 2 * e) ≡ M i (d + e)
  unfolding join_columns
  join-left =
      let a : d + 2 * e - d ≡ 2 * e = omega arith in
      let even : 2 * e % 2 ≡ 0 = omega arith in
      let half : 2 * e / 2 ≡ e = omega arith in
      rw (le-ltb (d + 2 * e) d (omega arith), a, even, half)

  join-right : join_columns d R M i (d + 2 * e + 1) ≡ R i e
  unfolding join_columns
  join-right =
      let a : d + 2 * e + 1 - d ≡ 2 * e + 1 = omega arith in
      let odd : (2 * e + 1) % 2 ≡ 1 = omega arith in
      let half : (2 * e + 1) / 2 ≡ e = omega arith in
      rw (le-ltb (d + 2 * e + 1) d (omega arith), a, odd, half)

module _ (s : Set) (random A P2 : List ℕ) (i j : ℕ) where
  abbrev c : ℕ
  c = get_or P2 j 0

  abbrev d : ℕ
  d = s.n - s.w

  pub chain_left : get_or P2 j 0 < s.n - s.w → permuted s random i (get_or P2 j 0) ≡ chain s random A P2 i j
  unfolding chain permute_columns multiply_pairs scale_columns join_columns
  chain_left h = rw (lt-ltb c d h)

  pub chain_right : s.n - s.w ≤ get_or P2 j 0
      → mixed s random A i ((get_or P2 j 0 - (s.n - s.w)) / 2) ((get_or P2 j 0 - (s.n - s.w)) % 2) ≡ chain s random A P2 i j
  unfolding chain permute_columns multiply_pairs scale_columns
  chain_right h =
      rw (le-ltb c d h, join-left d ((c - d) / 2) (random_matrix s random) _ i, join-right d ((c - d) / 2) (random_matrix s random) _ i)

  pub chain-lt : chain s random A P2 i j < size ten
  unfolding chain permute_columns multiply_pairs join_columns scale_columns
  chain-lt = go (ltb c d) _ _ _ _ _ _ _
    where
      go : (t : Bool) (a b u v e f x : ℕ) → pick t (pick t (mul ten a b) x) (mul ten u v ⊕ mul ten e f) < size ten
      go true a b u v e f x = mul-lt ten a b
      go false a b u v e f x = add-lt (width ten) (mul ten u v) (mul ten e f) (mul-lt ten u v) (mul-lt ten e f)

-- ---- row after row
pub tab_of : (n : ℕ) (f : ℕ → ℕ) (l : List ℕ) → length l ≡ n → ((q : ℕ) → q < n → get_or l q 0 ≡ f q) → l ≡ tab n f
tab_of n f l e h =
    ext_get_or 0 l (tab n f) (e ∙ sym (length-tab n f)) (λ i g. let lt : i < n = omega arith in h i lt ∙ sym (get_or-tab n f i lt))

pub tab-add : (n k : ℕ) (f : ℕ → ℕ) → tab (n + k) f ≡ tab n f ++ tab k (λ i. f (n + i))
unfolding tab
tab-add n zero f = rw (add-zero, append-nil)
tab-add n (suc k) f = rw (add-suc, tab-add n k f, append_assoc)

pub listed_more : (i u : ℕ) (M : Entries) → listed (i + 1) u M ≡ listed i u M ++ tab u (M i)
unfolding listed
listed_more i u M =
    let e : (i + 1) * u ≡ i * u + u = omega (arith, add-mul i 1 u) in
    rw (e, tab-add) (ap (λ (r : List ℕ). tab (i * u) (λ p. M (p / u) (p % u)) ++ r) (tab-ext u _ _ (λ q h. rw (digits_div i h, digits_mod i h))))

pub listed_none : (u : ℕ) (M : Entries) (l : List ℕ) → take (0 * u) l ≡ listed 0 u M
unfolding listed tab
listed_none u M l = rw zero-mul

-- row i is put behind those before it
pub listed_step : (i u : ℕ) (M : Entries) (l p rest : List ℕ) → take (i * u) l ≡ listed i u M → i * u ≤ length l → p ≡ tab u (M i)
    → take ((i + 1) * u) (take (i * u) l ++ (p ++ rest)) ≡ listed (i + 1) u M
listed_step i u M l p rest e fits q =
    let long : length p ≡ u = rw q (length-tab u (M i)) in
    take_put (i * u) u ((i + 1) * u) p l rest fits long (omega (arith, add-mul i 1 u)) ∙ rw (e, q) (sym (listed_more i u M))

pub row_fits : (i k u : ℕ) → i < k → i * u + u ≤ k * u
row_fits i k u h = omega (arith, mul-le-mul_right {m = i + 1} {n = k} u (omega arith), add-mul i 1 u)

pub chain_matrix : (s : Set) (random A P2 l : List ℕ) → l ≡ listed s.k (s.n + s.w) (chain s random A P2) → Matrix ten s.k (s.n + s.w) l
unfolding listed
chain_matrix s random A P2 l e = rw e (tab-matrix s.k (s.n + s.w) _ ten (λ p h. chain-lt s random A P2 (p / (s.n + s.w)) (p % (s.n + s.w))))
