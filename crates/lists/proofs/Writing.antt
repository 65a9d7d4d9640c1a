-- Laws of `Wrote`: the loop that writes a run one element a turn, a part that was lent, and the parts that a step leaves.
use mathlib.Core.Path.{◌≡◌, refl, sym, ap, ◌∙◌}
use mathlib.Core.Logic.{◌≢◌}
use mathlib.Core.List.{List, ◌++◌}
use Prim.Native.Nat.{ℕ, ◌+◌, ◌-◌, ◌≤◌, ◌<◌}
use native.Mathlib.Omega.{arith}
use native.Mathlib.Decide.{dec_lt, ℕ_discrete}
use lib.ListN.{length, get_or, set, take, drop, length-set, length-take, length-drop, get_or-append}
use lib.Seq.{get_or-set_same, get_or-set_other, get_or-take, get_or-drop, get_or-append-add, ext_get_or, length-take-le}
use Rattle.lists.specs.Loops.{tab}
use Rattle.lists.specs.Parts.{part, put, Wrote}
use Rattle.lists.proofs.Tables.{length-tab, get_or-tab}
use Rattle.lists.proofs.Parts.{part_length, put-length}

-- ---- a loop that writes one element a turn
at-or : {A : Type 0} (i j : ℕ) → (i ≡ j → A) → (i ≢ j → A) → A
at-or {A} i j f g = go (ℕ_discrete i j)
  where
    go : Dec (i ≡ j) → A
    go (yes e) = f e
    go (no d) = g d

pub wrote-more : (a i n : ℕ) (f : ℕ → ℕ) (l₀ l : List ℕ) (v : ℕ) → Wrote a i f l₀ l → i < n → a + n ≤ length l₀ → v ≡ f i → Wrote a (i + 1) f l₀ (set l (a + i) v)
wrote-more a i n f l₀ l v w lt fits e =
    let h : a + i < length l = omega arith in
    record {
      long = simp length-set w.long;
      there = λ j k. at-or j i
          (λ q. rw q (get_or-set_same l (a + i) v 0 h ∙ e))
          (λ d. get_or-set_other l (a + i) (a + j) v 0 (omega arith) ∙ w.there j (omega arith));
      elsewhere = λ j o. get_or-set_other l (a + i) j v 0 (λ q. o (omega arith) (omega arith)) ∙ w.elsewhere j (λ p q. o p (omega arith));
    }

-- ---- parts
-- two lists have the same part where they have the same elements
pub part_same : (b k : ℕ) (l l' : List ℕ) → length l' ≡ length l → ((i : ℕ) → i < k → get_or l' (b + i) 0 ≡ get_or l (b + i) 0) → part b k l' ≡ part b k l
part_same b k l l' e h =
    ext_get_or 0 (part b k l') (part b k l) (simp (length-take, length-drop, e))
    (λ i q. let lt : i < k = omega (arith, simp length-take at q) in
    rw (get_or-take, get_or-drop, get_or-take, get_or-drop) (h i lt))

module _ (a n : ℕ) (f : ℕ → ℕ) (l l' : List ℕ) (w : Wrote a n f l l') where
  pub wrote-part : a + n ≤ length l → part a n l' ≡ tab n f
  wrote-part fits =
      let fits' : a + n ≤ length l' = omega (arith, w.long) in
      ext_get_or 0 (part a n l') (tab n f) (part_length a n l' fits' ∙ sym (length-tab n f))
      (λ i q. let lt : i < n = omega (arith, part_length a n l' fits') in
      rw (get_or-take, get_or-drop) (w.there i lt ∙ sym (get_or-tab n f i lt)))

  pub part-before : (b k : ℕ) → b + k ≤ a → part b k l' ≡ part b k l
  part-before b k h = part_same b k l l' w.long (λ i q. w.elsewhere (b + i) (λ p r. omega arith))

  pub part-after : (b k : ℕ) → a + n ≤ b → part b k l' ≡ part b k l
  part-after b k h = part_same b k l l' w.long (λ i q. w.elsewhere (b + i) (λ p r. omega arith))

-- a part that was lent and came back as p
pub wrote-lent : (a n : ℕ) (p l l' : List ℕ) → l' ≡ put a n p l → length p ≡ n → a + n ≤ length l → Wrote a n (λ i. get_or p i 0) l l'
wrote-lent a n p l l' e lp fits = rw e (record { long = put-length a n p l fits lp; there = there; elsewhere = elsewhere })
  where
    head : length (take a l) ≡ a
    head = length-take-le a l (omega arith)

    there : (i : ℕ) → i < n → get_or (put a n p l) (a + i) 0 ≡ get_or p i 0
    there i h =
        let q : a + i ≡ length (take a l) + i = omega (arith, head) in
        rw (q, get_or-append-add (take a l) (p ++ drop n (drop a l)) i 0) (get_or-append p (drop n (drop a l)) 0 i (omega arith))

    before : (i : ℕ) → i < a → get_or (put a n p l) i 0 ≡ get_or l i 0
    before i h = get_or-append (take a l) (p ++ drop n (drop a l)) 0 i (omega (arith, head)) ∙ rw get_or-take

    after : (i : ℕ) → a + n ≤ i → get_or (put a n p l) i 0 ≡ get_or l i 0
    after i h =
        let j : ℕ = i - (a + n) in
        let q : i ≡ length (take a l) + (length p + j) = omega (arith, head) in
        let r : a + n + j ≡ i = omega arith in
        ap (λ (x : ℕ). get_or (put a n p l) x 0) q
        ∙ get_or-append-add (take a l) (p ++ drop n (drop a l)) (length p + j) 0
        ∙ get_or-append-add p (drop n (drop a l)) j 0
        ∙ rw (get_or-drop, get_or-drop) (ap (λ (x : ℕ). get_or l x 0) (omega arith))

    elsewhere : (i : ℕ) → (a ≤ i → i < a + n → ⊥) → get_or (put a n p l) i 0 ≡ get_or l i 0
    elsewhere i o = go (dec_lt i a) (dec_lt i (a + n))
      where
        go : Dec (i < a) → Dec (i < a + n) → get_or (put a n p l) i 0 ≡ get_or l i 0
        go (yes h) d = before i h
        go (no h) (yes g) = absurd (o (omega arith) g)
        go (no h) (no g) = after i (omega arith)
