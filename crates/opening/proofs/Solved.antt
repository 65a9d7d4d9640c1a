-- The vector that is computed goes with the code word.
use mathlib.Core.Path.{◌≡◌, refl, sym, ap, ap₂, ◌∙◌}
use mathlib.Core.Logic.{◌≢◌}
use mathlib.Core.Bool.{Bool, true, false, false≢true}
use mathlib.Core.List.{List, ◌++◌}
use Prim.Native.Nat.{ℕ, ◌+◌, ◌-◌, ◌*◌, ◌≤◌, ◌<◌}
use native.Mathlib.Omega.{arith}
use native.Mathlib.Decide.{dec_lt}
use borrow.Author.Tests.{le-ltb, lt-ltb}
use lib.ListN.{length, get_or, take, drop, get_or-eq_default, length-append, get_or-append}
use lib.Seq.{get_or-drop, get_or-append_right, take-append_seam}
use Rattle.lists.specs.Loops.{pick}
use Rattle.theory.specs.Word.{unit}
use Rattle.theory.specs.Matrix.{comb}
use Rattle.theory.proofs.Sum.{sum-ext}
use Rattle.gf.specs.Field.{size}
use Rattle.gf.specs.Ten.{ten}
use Rattle.gf.proofs.Ring.{mul-lt}
use Rattle.gf.proofs.Elements.{El, plus, times, plus_comm, el-xor, el-injective}
use Rattle.pairs.specs.Places.{Split}
use Rattle.pairs.specs.Key as keys
use Rattle.pairs.specs.Encoding as coding
use Rattle.pairs.specs.Good as good
use Rattle.pairs.proofs.Encode.{encoded-high}
use Rattle.pairs.proofs.Solve.{inverse-solves}
use Rattle.pairs.proofs.Opening.{vector-solved}
use Rattle.sets.specs.declared.Set.{Set}
use Rattle.sets.specs.Valid.{Valid}
use Rattle.scheme.specs.Keys.{Private, WellFormed, read}
use Rattle.scheme.specs.Sealing.{combined, encoded}
use Rattle.scheme.specs.Opening.{unmixed, placed, places_i, places_t, redone, Vector, W}
use Rattle.tie.proofs.Bridge.{field, K, E, word, sizes, key_of, combined-el, combined-lt, redone-el, encoded-el}
use Rattle.tie.proofs.Splitting.{yes-unmixed, unmixed-yes}
use Rattle.opening.specs.Given.{KeyGiven}
use Rattle.opening.specs.Inverse.{HoldsInverse}
use Rattle.opening.specs.Vector.{known_of, side_of}
use Rattle.opening.proofs.Combining.{tail_part}
use Rattle.opening.proofs.Parting.{parts, as-many}
use Rattle.opening.proofs.RowSums.{row_sum-el, el-identity}

-- elements of the definitions are below 2 ^ m
pub redone-lt : (s : Set) (κ : Private) (c : List ℕ) (j : ℕ) → redone s κ c j < size ten
unfolding redone
redone-lt s κ c j = mul-lt ten _ _

known-lt : (s : Set) (κ : Private) (c : List ℕ) (i : ℕ) → known_of s κ c i < size ten
unfolding known_of
known-lt s κ c i = go (unmixed s κ i)
  where
    go : (b : Bool) → pick b (redone s κ c (placed κ i)) 0 < size ten
    go true = redone-lt s κ c (placed κ i)
    go false = omega arith

-- the word of a vector: the vector, and its products with the columns of GE
pub encoded-low : (s : Set) (ge x : List ℕ) (j : ℕ) → j < s.k → encoded s ge x j ≡ get_or x j 0
unfolding encoded
encoded-low s ge x j h = rw (lt-ltb j s.k h)

encoded-past : (s : Set) (ge x : List ℕ) (j : ℕ) → s.k ≤ j → encoded s ge x j ≡ combined ten x s.k (λ i. get_or ge (i * (s.n + s.w - s.k) + (j - s.k)) 0)
unfolding encoded
encoded-past s ge x j h = rw (le-ltb j s.k h)

pub encoded-lt : (s : Set) (ge x : List ℕ) (j : ℕ) → s.k ≤ j → encoded s ge x j < size ten
encoded-lt s ge x j h = rw (encoded-past s ge x j h) (combined-lt s x s.k _)

pub sent_is : (s : Set) (ge x tail : List ℕ) → length x ≡ s.k
    → ((j : ℕ) → j < length tail → get_or tail j 0 ≡ combined ten x s.k (λ i. get_or ge (i * (s.n + s.w - s.k) + j) 0))
    → (j : ℕ) → j < length (x ++ tail) → get_or (x ++ tail) j 0 ≡ encoded s ge x j
sent_is s ge x tail long w j h = go (dec_lt j s.k)
  where
    go : Dec (j < s.k) → get_or (x ++ tail) j 0 ≡ encoded s ge x j
    go (yes lt) = get_or-append x tail 0 j (omega arith) ∙ sym (encoded-low s ge x j lt)
    go (no d) =
        let g : s.k ≤ j = omega arith in
        let f : j - length x ≡ j - s.k = omega arith in
        get_or-append_right x tail j 0 (omega arith) ∙ ap (λ (i : ℕ). get_or tail i 0) f ∙ w (j - s.k) (omega (arith, length-append x tail)) ∙ sym (encoded-past s ge x j g)

module _ (s : Set) (key : List ℕ) (G : KeyGiven s key) (wf : WellFormed s key) (c x₀ tail right solved x m : List ℕ)
    (long : length x ≡ s.k)
    (known₀ : (i : ℕ) → i < length x₀ → get_or x₀ i 0 ≡ known_of s (read s key) c i) (long₀ : length x₀ ≡ s.k)
    (tail₀ : (j : ℕ) → j < length tail → get_or tail j 0 ≡ combined ten x₀ s.k (λ i. get_or (read s key).ge (i * (s.n + s.w - s.k) + j) 0)) (longₜ : length tail ≡ s.n + s.w - s.k)
    (side : (b : ℕ) → b < length right → get_or right b 0 ≡ side_of s (read s key) c tail b) (longᵣ : length right ≡ length (places_i s (read s key)))
    (holds : HoldsInverse s (read s key) (length (places_i s (read s key))) m)
    (solution : (a : ℕ) → a < length solved → get_or solved a 0 ≡ combined ten right (length right) (λ i. get_or (take (length m - length (places_i s (read s key))) (drop (length (places_i s (read s key))) m)) (i * (length (places_i s (read s key)) + length (places_i s (read s key))) + a) 0)) (longₛ : length solved ≡ length (places_i s (read s key)))
    (mixed : (a : ℕ) → a < length (places_i s (read s key)) → get_or x (get_or (places_i s (read s key)) a 0) 0 ≡ get_or solved a 0)
    (others : (i : ℕ) → ((a : ℕ) → a < length (places_i s (read s key)) → i ≢ get_or (places_i s (read s key)) a 0) → get_or x i 0 ≡ get_or x₀ i 0) where
  abbrev κ : Private
  κ = read s key

  abbrev ok : Valid s
  ok = G.valid

  abbrev u : ℕ
  u = length (places_i s κ)

  abbrev I : ℕ → ℕ
  I a = get_or (places_i s κ) a 0

  abbrev T : ℕ → ℕ
  T b = get_or (places_t s κ) b 0

  split : Split s.k (s.n + s.w) (keys.Unmixed (K s) (sizes ok) (key_of s κ)) u I T
  split = parts s key G wf

  apart : (i : ℕ) → unmixed s κ i ≡ true → (a : ℕ) → a < u → i ≢ I a
  apart i e a h q = split.solved.holds a h (unmixed-yes s ok κ (I a) (rw q at e))

  x-plain : (i : ℕ) → i < s.k → unmixed s κ i ≡ true → get_or x i 0 ≡ known_of s κ c i
  x-plain i h e = others i (apart i e) ∙ known₀ i (omega arith)

  known-reads : (i : ℕ) → unmixed s κ i ≡ true → known_of s κ c i ≡ redone s κ c (placed κ i)
  unfolding known_of
  known-reads i e = rw e

  known-off : (i : ℕ) → (keys.Unmixed (K s) (sizes ok) (key_of s κ) i → ⊥) → known_of s κ c i ≡ 0
  unfolding known_of
  known-off i d = go (unmixed s κ i) refl
    where
      go : (b : Bool) → unmixed s κ i ≡ b → pick b (redone s κ c (placed κ i)) 0 ≡ 0
      go true e = absurd (d (unmixed-yes s ok κ i e))
      go false e = refl

  -- ---- the system
  abbrev B : ℕ → ℕ → El ten
  B b a = E s (get_or m (b * (u + u) + (u + a)) 0)

  abbrev value : ℕ → El ten
  value b = E s (get_or right b 0)

  abbrev M : ℕ → ℕ → El ten
  M = good.W (K s) s.k (key_of s κ).ge I T

  inverse : (b d : ℕ) → b < u → d < u → comb (K s) (B b) M u d ≡ unit (K s) b d
  unfolding comb W
  inverse b d hb hd =
      sym (row_sum-el s (λ j. get_or m (b * (u + u) + (u + j)) 0) u (λ j. W s κ j d)) ∙ ap (E s) (holds.inverse b d hb hd) ∙ el-identity s b d

  known-word : (i : ℕ) → i < s.k → word s x₀ i ≡ E s (known_of s κ c i)
  known-word i h = ap (E s) (known₀ i (omega arith))

  tail-is : (b : ℕ) → b < u → E s (get_or tail (T b - s.k) 0) ≡ coding.encoded (K s) s.k (key_of s κ).ge (λ i. E s (known_of s κ c i)) (T b)
  tail-is b h =
      let hi : s.k ≤ T b = split.high b h in
      let lo : T b < s.n + s.w = split.low b h in
      ap (E s) (tail₀ (T b - s.k) (omega arith)) ∙ combined-el s x₀ s.k _
      ∙ sum-ext (K s) _ _ s.k (λ i g. ap (λ (y : El ten). times ten y (E s (get_or κ.ge (i * (s.n + s.w - s.k) + (T b - s.k)) 0))) (known-word i g))
      ∙ sym (encoded-high (K s) s.k (key_of s κ).ge (λ i. E s (known_of s κ c i)) (T b) hi)

  system : (b : ℕ) → b < u → comb (K s) (comb (K s) value B u) M u b ≡ plus ten (keys.redone (K s) (sizes ok) (key_of s κ) (word s c) ((key_of s κ).p2 (T b))) (coding.encoded (K s) s.k (key_of s κ).ge (λ i. E s (known_of s κ c i)) (T b))
  unfolding placed side_of
  system b h =
      inverse-solves (K s) u B M inverse value b h
      ∙ ap (E s) (side b (omega arith))
      ∙ el-xor ten (field s) _ _
      ∙ ap₂ (plus ten) (tail-is b h) (redone-el s ok κ c _)
      ∙ plus_comm ten _ _

  solved-el : (a : ℕ) → a < u → E s (get_or solved a 0) ≡ comb (K s) value B u a
  unfolding comb
  solved-el a h =
      ap (E s) (solution a (omega arith) ∙ rw tail_part refl ∙ ap (λ (n : ℕ). combined ten right n (λ i. get_or (drop u m) (i * (u + u) + a) 0)) longᵣ)
      ∙ combined-el s right u _
      ∙ sum-ext (K s) _ _ u (λ i g. let q : u + (i * (u + u) + a) ≡ i * (u + u) + (u + a) = omega arith in
      ap (λ (y : ℕ). times ten (word s right i) (E s y)) (get_or-drop u m (i * (u + u) + a) 0 ∙ ap (λ (z : ℕ). get_or m z 0) q))

  abstract-vector : good.Vector (K s) (sizes ok) (key_of s κ) u T (word s c) (word s x)
  unfolding placed
  abstract-vector =
      vector-solved (K s) (sizes ok) (key_of s κ) u I T split (word s c) (λ i. E s (known_of s κ c i)) (comb (K s) value B u) (word s x)
      (λ i h e. ap (E s) (known-reads i (yes-unmixed s ok κ i e)) ∙ redone-el s ok κ c _)
      (λ a h. ap (E s) (known-off (I a) (split.solved.holds a h)))
      system
      (λ i h e. ap (E s) (x-plain i h (yes-unmixed s ok κ i e)))
      (λ a h. ap (E s) (mixed a h) ∙ solved-el a h)

  solved-lt : (a : ℕ) → a < u → get_or solved a 0 < size ten
  solved-lt a h = rw (solution a (omega arith)) (combined-lt s right (length right) _)

  x-small : (i : ℕ) → i < s.k → get_or x i 0 < size ten
  x-small i h = go (unmixed s κ i) refl
    where
      go : (b : Bool) → unmixed s κ i ≡ b → get_or x i 0 < size ten
      go true e = rw (x-plain i h e) (known-lt s κ c i)
      go false e =
          let (a, g, q) = split.solved.every i (omega arith) h (λ d. false≢true (sym e ∙ yes-unmixed s ok κ i d)) in
          rw (q, mixed a g) (solved-lt a g)

  small : (i : ℕ) → get_or x i 0 < size ten
  small i = go (dec_lt i s.k)
    where
      go : Dec (i < s.k) → get_or x i 0 < size ten
      go (yes h) = x-small i h
      go (no d) = let past : length x ≤ i = omega arith in rw get_or-eq_default (omega arith)

  pub vector-found : Vector s (read s key) c x
  unfolding placed
  vector-found =
      record {
        long = long;
        small = small;
        reads = λ i h e. x-plain i h e ∙ known-reads i e;
        solves = λ b h.
            let g : b < u = omega (arith, as-many s key G wf) in
            el-injective ten (field s) _ _ (encoded-lt s κ.ge x (T b) (split.high b g)) (redone-lt s κ c _)
            (encoded-el s κ.ge x (T b) ∙ abstract-vector.solves b g ∙ sym (redone-el s ok κ c _));
      }

pub front_is : (k : ℕ) (x tail : List ℕ) → length x ≡ k → take k (x ++ tail) ≡ x
front_is k x tail e = rw (sym e) (take-append_seam x tail)

-- the same, of the list of I as a key has it
pub vector-as : (s : Set) (key : List ℕ) (G : KeyGiven s key) (wf : WellFormed s key) (L : List ℕ) → L ≡ places_i s (read s key) → (c x₀ tail right solved x m : List ℕ) → (length x ≡ s.k) → ((i : ℕ) → i < length x₀ → get_or x₀ i 0 ≡ known_of s (read s key) c i) → (length x₀ ≡ s.k) → ((j : ℕ) → j < length tail → get_or tail j 0 ≡ combined ten x₀ s.k (λ i. get_or (read s key).ge (i * (s.n + s.w - s.k) + j) 0)) → (length tail ≡ s.n + s.w - s.k) → ((b : ℕ) → b < length right → get_or right b 0 ≡ side_of s (read s key) c tail b) → (length right ≡ length L) → (HoldsInverse s (read s key) (length L) m) → ((a : ℕ) → a < length solved → get_or solved a 0 ≡ combined ten right (length right) (λ i. get_or (take (length m - length L) (drop (length L) m)) (i * (length L + length L) + a) 0)) → (length solved ≡ length L) → ((a : ℕ) → a < length L → get_or x (get_or L a 0) 0 ≡ get_or solved a 0) → ((i : ℕ) → ((a : ℕ) → a < length L → i ≢ get_or L a 0) → get_or x i 0 ≡ get_or x₀ i 0) → Vector s (read s key) c x
vector-as s key G wf L e = rw e (vector-found s key G wf)
