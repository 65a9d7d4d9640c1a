-- The code: Vandermonde, and from it distance, unique decoding, and a word's being zero by k of its places.
use mathlib.Core.Path.{◌≡◌, sym, ap, ◌∙◌}
use mathlib.Core.Logic.{◌≢◌}
use Prim.Native.Nat.{ℕ, zero, suc, ◌+◌, ◌-◌, ◌≤◌, ◌<◌}
use native.Mathlib.Omega.{arith}
use native.Mathlib.Decide.{dec_le}
use Rattle.theory.specs.Field.{Field}
use Rattle.theory.specs.Word.{Places, IsZero, pow, wt}
use Rattle.theory.specs.Code.{Points, syn, IsCode}
use Rattle.theory.specs.Matrix.{Linear, Narrow}
use Rattle.theory.proofs.Field.{ring, add-zero, zero-add, add-self, mul-zero, mul_comm, mul_assoc, zero-mul, mul-cancel, add-ne-zero, eq-of-add}
use Rattle.theory.proofs.Place.{places-ne}
use Rattle.theory.proofs.Sum.{sum-ext, sum-zero, sum-add, sum-mul, sum-only}
use Rattle.theory.proofs.Weight.{wt-mono, wt-add, wt-lt, wt-zero, wt-find, wt-places}
use Rattle.theory.proofs.Power.{pow-suc, pow-ne-zero}

module _ (K : Field) where
  open K use {F, 𝟎, 𝟏, add as ◌⊕◌, mul as ◌⊗◌}

  infixl 65 ◌⊕◌
  infixl 70 ◌⊗◌
  module _ (X : ℕ → F) (n : ℕ) where
    pub syn-ext : (f g : ℕ → F) (j : ℕ) → ((i : ℕ) → i < n → f i ≡ g i) → syn K X n f j ≡ syn K X n g j
    unfolding syn
    syn-ext f g j h = sum-ext K _ _ n (λ i l. rw (h i l))

    pub syn-nil : (j : ℕ) → syn K X n (λ i. 𝟎) j ≡ 𝟎
    unfolding syn
    syn-nil j = sum-zero K _ n (λ i l. zero-mul K _)

    pub syn-add : (f g : ℕ → F) (j : ℕ) → syn K X n (λ i. f i ⊕ g i) j ≡ syn K X n f j ⊕ syn K X n g j
    unfolding syn
    syn-add f g j =
        sum-ext K _ _ n (λ i l. simp ring) ∙ sum-add K (λ i. f i ⊗ pow K (X i) j) (λ i. g i ⊗ pow K (X i) j) n

    pub syn-mul : (a : F) (f : ℕ → F) (j : ℕ) → syn K X n (λ i. a ⊗ f i) j ≡ a ⊗ syn K X n f j
    unfolding syn
    syn-mul a f j = sum-ext K _ _ n (λ i l. mul_assoc K a (f i) _) ∙ sum-mul K a (λ i. f i ⊗ pow K (X i) j) n

    syn-shift : (f : ℕ → F) (a : F) (j : ℕ) → syn K X n (λ i. f i ⊗ (X i ⊕ a)) j ≡ syn K X n f (suc j) ⊕ a ⊗ syn K X n f j
    unfolding syn
    syn-shift f a j =
        sum-ext K _ _ n (λ i l. simp (pow-suc, ring))
        ∙ sum-add K (λ i. f i ⊗ pow K (X i) (suc j)) (λ i. a ⊗ (f i ⊗ pow K (X i) j)) n
        ∙ ap (λ x. syn K X n f (suc j) ⊕ x) (sum-mul K a _ n)

    -- the code is a linear space, and looks at n places
    pub code-linear : (s : ℕ) → Linear K (IsCode K X n s)
    code-linear s =
        record {
          plus = λ u v p q j l. syn-add u v (suc j) ∙ rw (p j l, q j l) (add-zero K 𝟎);
          times = λ a u p j l. syn-mul a u (suc j) ∙ rw (p j l) (mul-zero K a);
        }

    pub code-narrow : (s : ℕ) → Narrow K n (IsCode K X n s)
    code-narrow s u v e p j l = sym (syn-ext u v (suc j) e) ∙ p j l

    pub code-nil : (s : ℕ) → IsCode K X n s (λ i. 𝟎)
    code-nil s j l = syn-nil (suc j)

    -- the power sums of a received word are those of the error
    pub syn-received : (s : ℕ) (y c e : ℕ → F) → IsCode K X n s c → ((i : ℕ) → i < n → y i ≡ c i ⊕ e i) → (j : ℕ) → j < s
        → syn K X n y (suc j) ≡ syn K X n e (suc j)
    syn-received s y c e h q j l = syn-ext y _ (suc j) q ∙ syn-add c e (suc j) ∙ rw (h j l) (zero-add K _)

  module _ (X : ℕ → F) (n : ℕ) (P : Points K X n) where
    -- a word that is zero but at p, with a power sum that is zero
    lone : (f : ℕ → F) (p j : ℕ) → p < n → ((i : ℕ) → i < n → i ≢ p → f i ≡ 𝟎) → syn K X n f j ≡ 𝟎 → f p ≡ 𝟎
    unfolding syn
    lone f p j l z h =
        mul-cancel K (pow K (X p) j) (f p) (pow-ne-zero K (X p) j (P.nonzero p l))
        (mul_comm K _ _ ∙ sym (sum-only K (λ i. f i ⊗ pow K (X i) j) n p l (λ i k d. rw (z i k d) (zero-mul K _))) ∙ h)

    -- THEOREM (Vandermonde). A word of weight at most s whose power sums 1 .. s are zero is zero.
    -- By induction on s: with f p not zero, f i ⊗ (X i ⊕ X p) is a word of smaller weight, so it is zero, so f is zero but at p.
    pub vandermonde : (s : ℕ) (f : ℕ → F) → wt K f n ≤ s → ((j : ℕ) → j < s → syn K X n f (suc j) ≡ 𝟎) → IsZero K n f
    vandermonde zero f w h = wt-zero K f n w
    vandermonde (suc s) f w h = go (dec_le (wt K f n) 0) (vandermonde s)
      where
        at : (p : ℕ) → p < n → f p ≢ 𝟎 → IsZero K n (λ i. f i ⊗ (X i ⊕ X p)) → ⊥
        at p l m z =
            m
            (lone f p 1 l
            (λ i k d. mul-cancel K (X i ⊕ X p) (f i) (add-ne-zero K _ _ (P.distinct i p k l d)) (mul_comm K _ _ ∙ z i k))
            (h 0 (omega arith)))

        go : Dec (wt K f n ≤ 0) → ((g : ℕ → F) → wt K g n ≤ s → IsCode K X n s g → IsZero K n g) → IsZero K n f
        go (yes k) ih = wt-zero K f n k
        go (no k) ih =
            let (p, l, m) = wt-find K f n (omega arith) in
            let g : ℕ → F = λ i. f i ⊗ (X i ⊕ X p) in
            let lt : wt K g n < wt K f n = wt-lt K f g n p (λ i j e. rw e (zero-mul K _)) l m (rw add-self (mul-zero K (f p))) in
            absurd (at p l m (ih g (omega arith) (λ j k'. syn-shift X n f (X p) (suc j) ∙ rw (h j (omega arith), h (suc j) (omega arith)) (simp ring))))

    -- THEOREM (distance). A code word with at most n - k places that are not zero is zero.
    pub distance : (k : ℕ) (c : ℕ → F) → IsCode K X n (n - k) c → wt K c n ≤ n - k → IsZero K n c
    distance k c h w = vandermonde (n - k) c w h

    -- THEOREM (unique). Two code words within t places of one word are equal.
    pub unique : (t : ℕ) (y a b : ℕ → F) → IsCode K X n (t + t) a → IsCode K X n (t + t) b → wt K (λ i. a i ⊕ y i) n ≤ t
        → wt K (λ i. b i ⊕ y i) n ≤ t → (i : ℕ) → i < n → a i ≡ b i
    unique t y a b ha hb wa wb i l =
        let w : wt K (λ i. a i ⊕ b i) n ≤ t + t = omega (arith, wt-mono K (λ i. (a i ⊕ y i) ⊕ (b i ⊕ y i)) (λ i. a i ⊕ b i) n (λ i k e. simp ring at e), wt-add K (λ i. a i ⊕ y i) (λ i. b i ⊕ y i) n) in
        eq-of-add K (a i) (b i)
        (vandermonde (t + t) (λ i. a i ⊕ b i) w (λ j k. syn-add X n a b (suc j) ∙ rw (ha j k, hb j k) (add-zero K 𝟎)) i l)

    -- THEOREM (block). A code word that is zero at k distinct places, where n ≤ k + s, is zero.
    pub block : (s k : ℕ) (c : ℕ → F) (p : ℕ → ℕ) → IsCode K X n s c → n ≤ k + s → Places n k p → ((l : ℕ) → l < k → c (p l) ≡ 𝟎)
        → IsZero K n c
    block s k c p h q Q z = vandermonde s c (omega (arith, wt-places K k c n p Q z)) h

    -- the points at distinct places are points
    pub points-at : (r : ℕ) (p : ℕ → ℕ) → Places n r p → Points K (λ l. X (p l)) r
    points-at r p Q =
        record {
          distinct = λ i j k l m. P.distinct (p i) (p j) (Q.below i k) (Q.below j l) (places-ne n r p Q i j k l m);
          nonzero = λ i k. P.nonzero (p i) (Q.below i k);
        }
