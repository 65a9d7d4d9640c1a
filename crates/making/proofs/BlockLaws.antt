-- The blocks that a search finds: w of them, each with a determinant, made of the elements that were searched.
use mathlib.Core.Path.{◌≡◌, refl, sym, ◌∙◌}
use mathlib.Core.Logic.{◌≢◌}
use mathlib.Core.List.{List, [], ◌∷◌}
use Prim.Native.Nat.{ℕ, zero, suc, ◌+◌, ◌*◌, ◌<◌}
use native.Mathlib.Omega.{arith}
use native.Mathlib.Decide.{ℕ_discrete}
use lib.ListN.{length, get_or}
use lib.Pow.{pow_pos}
use Rattle.gf.specs.Ten.{ten}
use Rattle.bits.specs.Bits.{Small}
use Rattle.scheme.specs.Setup.{det, Found, found, none, with_block, blocks}
use Rattle.making.proofs.Columns.{det_at}
use Rattle.making.proofs.Searching.{blocks-short, blocks-skip, blocks-take}

pub record Blocks (w : ℕ) (l A : List ℕ) : Type 0 where
  pub long : length A ≡ 4 * w
  pub regular : (i : ℕ) → i < w → det_at A i ≢ 0
  pub small : (m : ℕ) → Small m l → Small m A

blocks-none : (l A : List ℕ) → found [] ≡ found A → Blocks 0 l A
blocks-none l A e =
    let q : A ≡ [] = cc in
    rw q (record { long = refl; regular = λ i h. absurd (omega arith); small = λ m s i. pow_pos m })

tail-small : (m x : ℕ) (l : List ℕ) → Small m (x ∷ l) → Small m l
tail-small m x l s i = s (suc i)

-- a block before others
module _ (w a b c d : ℕ) (l B : List ℕ) (v : Blocks w l B) (r : det ten a b c d ≢ 0) where
  regular : (i : ℕ) → i < suc w → det_at (a ∷ b ∷ c ∷ d ∷ B) i ≢ 0
  regular zero h = r
  regular (suc i) h =
      let f0 : 4 * suc i ≡ suc (suc (suc (suc (4 * i)))) = omega arith in
      let f1 : 4 * suc i + 1 ≡ suc (suc (suc (suc (4 * i + 1)))) = omega arith in
      let f2 : 4 * suc i + 2 ≡ suc (suc (suc (suc (4 * i + 2)))) = omega arith in
      let f3 : 4 * suc i + 3 ≡ suc (suc (suc (suc (4 * i + 3)))) = omega arith in
      rw (f3, f2, f1, f0) (v.regular i (omega arith))

  small : (m : ℕ) → Small m (a ∷ b ∷ c ∷ d ∷ l) → Small m (a ∷ b ∷ c ∷ d ∷ B)
  small m s zero = s 0
  small m s (suc zero) = s 1
  small m s (suc (suc zero)) = s 2
  small m s (suc (suc (suc zero))) = s 3
  small m s (suc (suc (suc (suc i)))) = v.small m (λ j. s (suc (suc (suc (suc j))))) i

  one_more : Blocks (suc w) (a ∷ b ∷ c ∷ d ∷ l) (a ∷ b ∷ c ∷ d ∷ B)
  one_more = record { long = omega (arith, v.long); regular = regular; small = small }

taken : (w a b c d : ℕ) (l A : List ℕ) (x : Found) → ((B : List ℕ) → x ≡ found B → Blocks w l B) → det ten a b c d ≢ 0 → with_block a b c d x ≡ found A → Blocks (suc w) (a ∷ b ∷ c ∷ d ∷ l) A
taken w a b c d l A (found B) v r e =
    let q : A ≡ a ∷ b ∷ c ∷ d ∷ B = cc in
    rw q (one_more w a b c d l B (v B refl) r)
taken w a b c d l A none v r e = absurd (let z : ◌≡◌ {A = ℕ} 0 1 = cc in omega arith)

no_blocks : (w : ℕ) (l A : List ℕ) → length l < 4 → blocks ten (suc w) l ≡ found A → Blocks (suc w) l A
no_blocks w l A h e = absurd (let z : ◌≡◌ {A = ℕ} 0 1 = cc (blocks-short w l h) in omega arith)

pub blocks-laws : (w : ℕ) (l A : List ℕ) → blocks ten w l ≡ found A → Blocks w l A
unfolding blocks
blocks-laws zero l A e = blocks-none l A e
blocks-laws (suc w) [] A e = no_blocks w [] A (omega arith) e
blocks-laws (suc w) (a ∷ []) A e = no_blocks w (a ∷ []) A (omega arith) e
blocks-laws (suc w) (a ∷ b ∷ []) A e = no_blocks w (a ∷ b ∷ []) A (omega arith) e
blocks-laws (suc w) (a ∷ b ∷ c ∷ []) A e = no_blocks w (a ∷ b ∷ c ∷ []) A (omega arith) e
blocks-laws (suc w) (a ∷ b ∷ c ∷ d ∷ l) A e =
    go (ℕ_discrete (det ten a b c d) 0) (blocks-laws (suc w) (b ∷ c ∷ d ∷ l) A) (blocks-laws w l)
  where
    go : Dec (det ten a b c d ≡ 0) → (blocks ten (suc w) (b ∷ c ∷ d ∷ l) ≡ found A → Blocks (suc w) (b ∷ c ∷ d ∷ l) A)
        → ((B : List ℕ) → blocks ten w l ≡ found B → Blocks w l B) → Blocks (suc w) (a ∷ b ∷ c ∷ d ∷ l) A
    go (yes z) skip take =
        let v : Blocks (suc w) (b ∷ c ∷ d ∷ l) A = skip (sym (blocks-skip w a b c d l z) ∙ e) in
        record { long = v.long; regular = v.regular; small = λ m s. v.small m (tail-small m a (b ∷ c ∷ d ∷ l) s) }
    go (no r) skip take = taken w a b c d l A (blocks ten w l) take r (sym (blocks-take w a b c d l r) ∙ e)
