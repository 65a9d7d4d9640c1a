-- Setup's definition, case by case, from what the stages leave.
use Rattle.std.proofs.Common.{◌≡◌, refl, sym, ap, ◌∙◌, ℕ, zero, suc, ◌+◌, ◌-◌, ◌*◌, ◌/◌, ◌%◌, ◌≤◌, ◌<◌, ◌^◌, List, [], ◌∷◌, ◌++◌, length, get_or, take, drop, length-append, append_assoc, Result, Err, arith}
use native.Mathlib.Nat.{mod-lt, div-lt_iff_lt-mul, mul-le-mul_right}
use native.Mathlib.Decide.{dec_lt}
use lib.ListN.{get_or-append, get_or-eq_default}
use lib.Seq.{drop_at, take-length, get_or-append-add}
use borrow.Author.Tests.{lt-ltb, le-ltb}
use Rattle.lists.proofs.Tables.{length-tab, get_or-tab}
use Rattle.gf.specs.Field.{size, width}
use Rattle.gf.specs.Ten.{ten}
use Rattle.gf.proofs.Ring.{mul-lt, inverse-lt}
use Rattle.gf.proofs.Ten.{ten-field}
use Rattle.bits.specs.Bits.{Small, packed}
use Rattle.bits.specs.Numbers.{bytes16}
use Rattle.perm.specs.Perm.{Perm}
use Rattle.perm.proofs.Permutations.{entries-low}
use Rattle.perm.proofs.Shuffling.{shuffled-perm}
use Rattle.sets.specs.declared.Set.{Set}
use Rattle.sets.specs.Valid.{Valid, key_elements}
use Rattle.linear.specs.Matrix.{Matrix}
use Rattle.linear.proofs.Laws.{end-matrix}
use Rattle.scheme.specs.declared.Refusal.TheVariants.{FewMultipliers, FewElements, NoWindow, Dependent}
use Rattle.scheme.specs.Lists.{inverse_of}
use Rattle.scheme.specs.Matrices.{listed}
use Rattle.scheme.specs.Keys.{public_key, private_key}
use Rattle.scheme.specs.Setup.{usable, multipliers, block_elements, found, none, blocks, permutation1, permutation2, window, inverse_columns, inverses, right_part, made, fails, reduced_pair, with_blocks, setup}
use Rattle.scheme.specs.declared.Refusal.{Refusal}
use Rattle.making.specs.Filling.{reduction}
use Rattle.making.specs.Stages.{Makes}
use Rattle.making.proofs.Filled.{chain_matrix}
use Rattle.making.proofs.KeyLaws.{length-inverses}

-- ---- the permutations
pub first_perm : (s : Set) (random l : List ℕ) → l ≡ permutation1 s random → Perm l
unfolding permutation1
first_perm s random l e = rw e (shuffled-perm _ s.n (s.n - 1) (omega arith))

pub second_perm : (s : Set) (random l : List ℕ) (p : ℕ) → l ≡ permutation2 s random p → Perm l
unfolding permutation2
second_perm s random l p e = rw e (shuffled-perm _ (s.n + s.w) (s.n + s.w - 1) (omega arith))

pub low : (l : List ℕ) (n : ℕ) → Perm l → length l ≡ n → (i : ℕ) → i < n → get_or l i 0 < n
low l n perm e i h = rw (← e) (entries-low l perm i (omega arith))

-- ---- the refusals
pub refused : (s : Set) (random public private : List ℕ) (r : Result ℕ Refusal) (e e' : Refusal) → r ≡ Err e → e ≡ e' → setup s random ≡ fails e' → Makes s random r public private
refused s random public private r e e' q h d = rw (q, h) d

module _ (s : Set) (random : List ℕ) where
  pub few_multipliers : length (usable s random) < s.n → setup s random ≡ fails FewMultipliers
  unfolding setup
  few_multipliers h = rw (lt-ltb (length (usable s random)) s.n h)

  module _ (enough : s.n ≤ length (usable s random)) where
    pub few_elements : blocks ten s.w (block_elements s random) ≡ none → setup s random ≡ fails FewElements
    unfolding setup with_blocks
    few_elements e = rw (le-ltb (length (usable s random)) s.n enough, e)

    module _ (A : List ℕ) (is : blocks ten s.w (block_elements s random) ≡ found A) where
      pub no_window : window s random ≡ 5 → setup s random ≡ fails NoWindow
      unfolding setup with_blocks
      no_window h = rw (le-ltb (length (usable s random)) s.n enough, is, le-ltb (window s random) 5 (omega arith))

      pub past-window : window s random < 5 → setup s random ≡ reduced_pair s random A (window s random)
      unfolding setup with_blocks
      past-window h = rw (le-ltb (length (usable s random)) s.n enough, is, lt-ltb (window s random) 5 h)

      module _ (p : ℕ) (at : window s random ≡ p) (lt : p < 5) (P2 : List ℕ) (second : P2 ≡ permutation2 s random p) where
        to-pair : setup s random ≡ reduced_pair s random A p
        to-pair = rw (← at) (past-window (omega arith))

        pub dependent : (reduction s random A P2).cols < s.k → setup s random ≡ fails Dependent
        unfolding reduced_pair
        dependent h = to-pair ∙ rw (← second, lt-ltb (reduction s random A P2).cols s.k h)

        pub pair : s.k ≤ (reduction s random A P2).cols → (V P1 m ge public private : List ℕ) → V ≡ multipliers s random → P1 ≡ permutation1 s random → m ≡ (reduction s random A P2).mat
            → ge ≡ right_part s m → public ≡ public_key s ge
            → private ≡ s.byte ∷ (bytes16 (inverse_of P1) ++ (bytes16 (inverse_of P2) ++ packed s.m (inverse_columns ten A ++ (inverses ten V ++ right_part s m))))
            → setup s random ≡ made public private (p + 1)
        unfolding reduced_pair private_key
        pair h V P1 m ge public private ev e1 em eg e q =
            to-pair ∙ rw (← second, le-ltb (reduction s random A P2).cols s.k h, e, q, eg, ← ev, ← e1, ← em)

-- ---- the run of elements
pub small-as : (m n : ℕ) (x : List ℕ) → m ≡ n → Small m x → Small n x
small-as m n x e h i = rw (← e) (h i)

pub append-small : (w : ℕ) (a b : List ℕ) → Small w a → Small w b → Small w (a ++ b)
append-small w a b f g i = go (dec_lt i (length a))
  where
    go : Dec (i < length a) → get_or (a ++ b) i 0 < 2 ^ w
    go (yes h) = rw (get_or-append a b 0 i h) (f i)
    go (no h) =
        let e : i ≡ length a + (i - length a) = omega arith in
        rw (ap (λ (n : ℕ). get_or (a ++ b) n 0) e, get_or-append-add) (g (i - length a))

pub columns-small : (A : List ℕ) → Small (width ten) (inverse_columns ten A)
unfolding inverse_columns
columns-small [] i = omega arith
columns-small (a ∷ []) i = omega arith
columns-small (a ∷ b ∷ []) i = omega arith
columns-small (a ∷ b ∷ c ∷ []) i = omega arith
columns-small (a ∷ b ∷ c ∷ d ∷ l) zero = mul-lt ten _ _
columns-small (a ∷ b ∷ c ∷ d ∷ l) (suc zero) = mul-lt ten _ _
columns-small (a ∷ b ∷ c ∷ d ∷ l) (suc (suc i)) = columns-small l i

pub inverses-small : (l : List ℕ) → Small (width ten) (inverses ten l)
unfolding inverses
inverses-small [] i = omega arith
inverses-small (x ∷ l) zero = inverse-lt ten x
inverses-small (x ∷ l) (suc i) = inverses-small l i

pub length-columns : (A : List ℕ) (w : ℕ) → length A ≡ 4 * w → length (inverse_columns ten A) ≡ 2 * w
unfolding inverse_columns
length-columns [] w h = omega arith
length-columns (a ∷ []) w h = absurd (omega arith)
length-columns (a ∷ b ∷ []) w h = absurd (omega arith)
length-columns (a ∷ b ∷ c ∷ []) w h = absurd (omega arith)
length-columns (a ∷ b ∷ c ∷ d ∷ l) zero h = absurd (omega arith)
length-columns (a ∷ b ∷ c ∷ d ∷ l) (suc w) h = omega (arith, length-columns l w (omega arith))

pub length-right : (s : Set) (l : List ℕ) → length (right_part s l) ≡ key_elements s
unfolding right_part listed
length-right s l = length-tab (key_elements s) _

module _ (s : Set) (v : Valid s) (field : s.m ≡ width ten) (random A P2 m : List ℕ) (is : m ≡ (reduction s random A P2).mat) where
  right-small : Small s.m (right_part s m)
  unfolding right_part listed
  right-small = rw is (small-as (width ten) s.m (right_part s (reduction s random A P2).mat) (sym field) (λ i. go i (dec_lt i (key_elements s))))
    where
      reduced : Matrix ten s.k (s.n + s.w) (reduction s random A P2).mat
      reduced = end-matrix ten ten-field s.k (s.n + s.w) s.k (omega arith) (omega (arith, v.room)) _ (chain_matrix s random A P2 _ refl)

      go : (i : ℕ) → Dec (i < key_elements s) → get_or (right_part s (reduction s random A P2).mat) i 0 < size ten
      go i (yes h) =
          let some : 0 < s.n + s.w - s.k = omega (arith, v.some_w, v.room) in
          rw (get_or-tab (key_elements s) _ i h)
          (reduced.small (i / (s.n + s.w - s.k)) (s.k + i % (s.n + s.w - s.k)) ((div-lt_iff_lt-mul some).1 h) (omega (arith, mod-lt i some)))
      go i (no h) =
          let past : length (right_part s (reduction s random A P2).mat) ≤ i = omega (arith, length-right s (reduction s random A P2).mat) in
          let z : get_or (right_part s (reduction s random A P2).mat) i 0 ≡ 0 = get_or-eq_default (right_part s (reduction s random A P2).mat) 0 past in
          omega arith

  module _ (V run : List ℕ) (run-is : run ≡ inverse_columns ten A ++ (inverses ten V ++ right_part s m)) where
    pub run_small : Small s.m run
    run_small =
        rw run-is
        (append-small s.m (inverse_columns ten A) (inverses ten V ++ right_part s m) (small-as (width ten) s.m (inverse_columns ten A) (sym field) (columns-small A))
        (append-small s.m (inverses ten V) (right_part s m) (small-as (width ten) s.m (inverses ten V) (sym field) (inverses-small V)) right-small))

    module _ (la : length A ≡ 4 * s.w) (lv : length V ≡ s.n) where
      pub run_end : take (length run - (2 * s.w + s.n)) (drop (2 * s.w + s.n) run) ≡ right_part s m
      run_end =
          let two : length (inverse_columns ten A ++ inverses ten V) ≡ 2 * s.w + s.n = rw length-append (omega (arith, length-columns A s.w la, length-inverses ten V)) in
          let split : run ≡ (inverse_columns ten A ++ inverses ten V) ++ right_part s m = run-is ∙ sym (append_assoc (inverse_columns ten A) (inverses ten V) (right_part s m)) in
          let end : drop (2 * s.w + s.n) run ≡ right_part s m = rw split (drop_at (inverse_columns ten A ++ inverses ten V) (right_part s m) (2 * s.w + s.n) two) in
          let long : length run - (2 * s.w + s.n) ≡ length (right_part s m) = (let all : length run ≡ 2 * s.w + s.n + length (right_part s m) = ap length split ∙ rw length-append (omega (arith, two)) in omega arith) in
          rw (end, long) (take-length (right_part s m))

      pub end_small : Small s.m (take (length run - (2 * s.w + s.n)) (drop (2 * s.w + s.n) run))
      end_small = rw run_end right-small

-- there is room for both lists in the matrix
pub lists_fit : (k u : ℕ) → 0 < k → u ≤ k * u
lists_fit k u h = omega (arith, mul-le-mul_right {m = 1} {n = k} u h)
