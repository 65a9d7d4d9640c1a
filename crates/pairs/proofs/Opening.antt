-- What opening finds with any well-formed key, good or not: there is one code word within t places at most, and, where W is regular,
-- one vector that goes with it.
use mathlib.Core.Path.{◌≡◌, sym, ◌∙◌}
use Prim.Native.Nat.{ℕ, ◌≤◌, ◌<◌}
use native.Mathlib.Omega.{arith}
use Rattle.theory.specs.Field.{Field}
use Rattle.theory.specs.Word.{wt}
use Rattle.theory.specs.Code.{Points}
use Rattle.theory.specs.Matrix.{comb}
use Rattle.theory.proofs.Field.{add_comm}
use Rattle.theory.proofs.Weight.{wt-ext}
use Rattle.theory.proofs.Distance.{unique}
use Rattle.pairs.specs.Sizes.{Sizes, total}
use Rattle.pairs.specs.Key.{Key, WellFormed, redone, Unmixed}
use Rattle.pairs.specs.Encoding.{encoded}
use Rattle.pairs.specs.Places.{Split}
use Rattle.pairs.specs.Good.{InCode, W, Regular, Vector, Finds}
use Rattle.pairs.proofs.Undo.{redone-ext}
use Rattle.pairs.proofs.Solve.{system-solves, solved-once}

module _ (K : Field) (s : Sizes) (X : ℕ → K.F) (P : Points K X s.n) where
  open K use {F, add as ◌⊕◌}

  infixl 65 ◌⊕◌
  -- two code words within t places of a word are equal
  pub near-once : (z b c : ℕ → F) → InCode K s X b → InCode K s X c → wt K (λ i. z i ⊕ b i) s.n ≤ s.t
      → wt K (λ i. z i ⊕ c i) s.n ≤ s.t → (i : ℕ) → i < s.n → b i ≡ c i
  near-once z b c hb hc wb wc =
      unique K X s.n P s.t z b c (λ j l. hb j (omega arith)) (λ j l. hc j (omega arith)) (turned b wb) (turned c wc)
    where
      turned : (c : ℕ → F) → wt K (λ i. z i ⊕ c i) s.n ≤ s.t → wt K (λ i. c i ⊕ z i) s.n ≤ s.t
      turned c h = omega (arith, wt-ext K (λ i. c i ⊕ z i) (λ i. z i ⊕ c i) s.n (λ i l. add_comm K _ _))

module _ (K : Field) (s : Sizes) (κ : Key K) (u : ℕ) (I T : ℕ → ℕ) (S : Split s.k (total s) (Unmixed K s κ) u I T) where
  open K use {F, 𝟎, add as ◌⊕◌}

  infixl 65 ◌⊕◌
  -- of a code word's elements n count
  pub vector-ext : WellFormed K s κ → (b c x : ℕ → F) → ((j : ℕ) → j < s.n → b j ≡ c j) → Vector K s κ u T b x → Vector K s κ u T c x
  vector-ext ok b c x e p =
      record {
        reads = λ i l h. p.reads i l h ∙ redone-ext K s κ ok b c e i h;
        solves = λ a l. p.solves a l ∙ redone-ext K s κ ok b c e (T a) (S.read a l);
      }

  -- the vector as it is computed: `known` is read off at the unmixed places below k and zero at I, y solves for the places of I
  pub vector-solved : (c known y x : ℕ → F) → ((i : ℕ) → i < s.k → Unmixed K s κ i → known i ≡ redone K s κ c (κ.p2 i))
      → ((a : ℕ) → a < u → known (I a) ≡ 𝟎)
      → ((b : ℕ) → b < u → comb K y (W K s.k κ.ge I T) u b ≡ redone K s κ c (κ.p2 (T b)) ⊕ encoded K s.k κ.ge known (T b))
      → ((i : ℕ) → i < s.k → Unmixed K s κ i → x i ≡ known i) → ((a : ℕ) → a < u → x (I a) ≡ y a) → Vector K s κ u T c x
  vector-solved c known y x reads off system low high =
      record {
        reads = λ i l h. low i l h ∙ reads i l h;
        solves = system-solves K s.k (total s) κ.ge (Unmixed K s κ) u I T S known y x (λ b. redone K s κ c (κ.p2 (T b))) off system low high;
      }

  module _ (regular : Regular K s.k κ.ge u I T) where
    -- THEOREM (vector, once). At most one vector goes with a word of n elements, a code word or not.
    pub vector-once : (c x x' : ℕ → F) → Vector K s κ u T c x → Vector K s κ u T c x' → (i : ℕ) → i < s.k → x i ≡ x' i
    vector-once c x x' p q =
        solved-once K s.k (total s) κ.ge (Unmixed K s κ) u I T S regular x x' (λ i l h. p.reads i l h ∙ sym (q.reads i l h))
        (λ b l. p.solves b l ∙ sym (q.solves b l))

    -- THEOREM (finds, once). Opening finds at most one vector in any word.
    pub finds-once : WellFormed K s κ → (X : ℕ → F) → Points K X s.n → (y x x' : ℕ → F) → Finds K s X κ u T y x
        → Finds K s X κ u T y x' → (i : ℕ) → i < s.k → x i ≡ x' i
    finds-once ok X P y x x' p q =
        vector-once q.code x x'
        (vector-ext ok p.code q.code x (near-once K s X P _ p.code q.code p.word q.word p.near q.near) p.vector)
        q.vector
