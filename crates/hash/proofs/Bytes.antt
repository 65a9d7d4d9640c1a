-- Words as bytes, the most significant first.
use Rattle.std.proofs.Common.{◌≡◌, ℕ, ◌+◌, ◌*◌, ◌^◌, ◌<◌, List, [], ◌∷◌, ◌++◌, length, get_or, take, sym, refl, ◌∙◌, arith}
use lib.Seq.{take-length}
use mir.Syntax.{w64, w128}
use Rattle.std.specs.Int.{from_be_bytes, to_be_bytes}
use Rattle.hash.specs.declared.word.Words.{Words}
use Rattle.hash.specs.Sha.{word, bytes8, bits16, output}
use Rattle.hash.specs.Mask.{bytes4}

pub word_of : (b : List ℕ) (i : ℕ)
    → from_be_bytes w64 (get_or b i 0 ∷ get_or b (i + 1) 0 ∷ get_or b (i + 2) 0 ∷ get_or b (i + 3) 0 ∷ get_or b (i + 4) 0 ∷ get_or b (i + 5) 0 ∷ get_or b (i + 6) 0 ∷ get_or b (i + 7) 0 ∷ [])
    ≡ word b i
unfolding word
word_of b i = omega arith

-- the length in bits of n bytes: the high word of the standard is that of a number of 128 bits, and the low one too
same8 : {a b c d e f g h a' b' c' d' e' f' g' h' : ℕ} {l l' : List ℕ}
    → a ≡ a' → b ≡ b' → c ≡ c' → d ≡ d' → e ≡ e' → f ≡ f' → g ≡ g' → h ≡ h' → l ≡ l'
    → a ∷ b ∷ c ∷ d ∷ e ∷ f ∷ g ∷ h ∷ l ≡ a' ∷ b' ∷ c' ∷ d' ∷ e' ∷ f' ∷ g' ∷ h' ∷ l'
same8 p q r s t u v w k = λ i. p i ∷ q i ∷ r i ∷ s i ∷ t i ∷ u i ∷ v i ∷ w i ∷ k i

pub bits_of : (n : ℕ) → n < 2 ^ 64 → to_be_bytes w128 (8 * n) ≡ bits16 n
unfolding bits16 bytes8
bits_of n h =
    same8 (omega arith) (omega arith) (omega arith) (omega arith) (omega arith) (omega arith) (omega arith) (omega arith)
    (same8 (omega arith) (omega arith) (omega arith) (omega arith) (omega arith) (omega arith) (omega arith) (omega arith) refl)

-- the four low bytes of n
pub low_bytes : (n : ℕ) (l : List ℕ) → l ≡ to_be_bytes w64 n → get_or l 4 0 ∷ get_or l 5 0 ∷ get_or l 6 0 ∷ get_or l 7 0 ∷ [] ≡ bytes4 n
unfolding bytes4
low_bytes n l e = rw e refl

-- eight words, each written after the one before it
pub all_put : (s : Words) (l₁ l₂ l₃ l₄ l₅ l₆ l₇ l₈ : List ℕ) → length l₈ ≡ 64
    → take 8 l₁ ≡ bytes8 s.a → take 16 l₂ ≡ take 8 l₁ ++ bytes8 s.b → take 24 l₃ ≡ take 16 l₂ ++ bytes8 s.c → take 32 l₄ ≡ take 24 l₃ ++ bytes8 s.d
    → take 40 l₅ ≡ take 32 l₄ ++ bytes8 s.e → take 48 l₆ ≡ take 40 l₅ ++ bytes8 s.f → take 56 l₇ ≡ take 48 l₆ ++ bytes8 s.g
    → take 64 l₈ ≡ take 56 l₇ ++ bytes8 s.h → l₈ ≡ output s
unfolding output bytes8
all_put s l₁ l₂ l₃ l₄ l₅ l₆ l₇ l₈ long e₁ e₂ e₃ e₄ e₅ e₆ e₇ e₈ =
    sym (rw long at (take-length l₈)) ∙ rw (e₈, e₇, e₆, e₅, e₄, e₃, e₂, e₁) refl
