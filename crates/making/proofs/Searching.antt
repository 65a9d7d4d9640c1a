-- The block search: what is left to search, behind the blocks that stand, answers what the whole does.
use Rattle.std.proofs.Common.{◌≡◌, refl, sym, ap, ◌∙◌, ℕ, suc, ◌+◌, ◌-◌, ◌*◌, ◌≤◌, ◌<◌, List, [], ◌∷◌, ◌++◌, length, get_or, take, drop, append-nil, append_assoc, arith}
use lib.Seq.{take-length, take_all}
use borrow.Author.Tests.{eq-eqb, ne_eqb}
use Rattle.lists.proofs.Loops.{left-suc}
use Rattle.gf.specs.Ten.{ten}
use Rattle.scheme.specs.Setup.{det, Found, found, none, with_block, blocks}
use Rattle.making.specs.declared.blocks.Block.{Block}
use Rattle.making.specs.Blocks.{FirstBlock, NoBlock}

-- ---- one block
pub record Skipped (x rest : List ℕ) : Type 0 where
  pub same : (w : ℕ) → blocks ten (suc w) x ≡ blocks ten (suc w) rest

pub blocks-short : (w : ℕ) (l : List ℕ) → length l < 4 → blocks ten (suc w) l ≡ none
unfolding blocks
blocks-short w [] h = refl
blocks-short w (a ∷ []) h = refl
blocks-short w (a ∷ b ∷ []) h = refl
blocks-short w (a ∷ b ∷ c ∷ []) h = refl
blocks-short w (a ∷ b ∷ c ∷ d ∷ l) h = absurd (omega arith)

pub blocks-skip : (w a b c d : ℕ) (l : List ℕ) → det ten a b c d ≡ 0 → blocks ten (suc w) (a ∷ b ∷ c ∷ d ∷ l) ≡ blocks ten (suc w) (b ∷ c ∷ d ∷ l)
unfolding blocks
blocks-skip w a b c d l e = rw (eq-eqb (det ten a b c d) 0 e)

pub blocks-take : (w a b c d : ℕ) (l : List ℕ) → (det ten a b c d ≡ 0 → ⊥) → blocks ten (suc w) (a ∷ b ∷ c ∷ d ∷ l) ≡ with_block a b c d (blocks ten w l)
unfolding blocks
blocks-take w a b c d l e = rw (ne_eqb (det ten a b c d) 0 e)

abbrev det_of : List ℕ → ℕ
det_of l = det ten (get_or l 0 0) (get_or l 1 0) (get_or l 2 0) (get_or l 3 0)

-- the elements are lent from the second on, or from the fifth on
pub skipped_more : (x l : List ℕ) (n : ℕ) → Skipped x l → 4 ≤ length l → n ≡ length l - 1 → det_of l ≡ 0 → Skipped x (take n (drop 1 l))
skipped_more x [] n v h q e = absurd (omega arith)
skipped_more x (a ∷ []) n v h q e = absurd (omega arith)
skipped_more x (a ∷ b ∷ []) n v h q e = absurd (omega arith)
skipped_more x (a ∷ b ∷ c ∷ []) n v h q e = absurd (omega arith)
skipped_more x (a ∷ b ∷ c ∷ d ∷ l) n v h q e =
    let all : take n (b ∷ c ∷ d ∷ l) ≡ b ∷ c ∷ d ∷ l = take_all n (b ∷ c ∷ d ∷ l) (omega arith) in
    rw all (record { same = λ w. v.same w ∙ blocks-skip w a b c d l e })

pub skipped_found : (x l : List ℕ) (n : ℕ) → Skipped x l → 4 ≤ length l → n ≡ length l - 4 → (det_of l ≡ 0 → ⊥)
    → (y : Block) → y.a ≡ get_or l 0 0 → y.b ≡ get_or l 1 0 → y.c ≡ get_or l 2 0 → y.d ≡ get_or l 3 0 → FirstBlock x y (take n (drop 4 l))
skipped_found x [] n v h q ne y ea eb ec ed = absurd (omega arith)
skipped_found x (a ∷ []) n v h q ne y ea eb ec ed = absurd (omega arith)
skipped_found x (a ∷ b ∷ []) n v h q ne y ea eb ec ed = absurd (omega arith)
skipped_found x (a ∷ b ∷ c ∷ []) n v h q ne y ea eb ec ed = absurd (omega arith)
skipped_found x (a ∷ b ∷ c ∷ d ∷ l) n v h q ne y ea eb ec ed =
    let all : take n l ≡ l = take_all n l (omega arith) in
    rw all (record { leads = λ w. v.same w ∙ blocks-take w a b c d l ne ∙ rw (ea, eb, ec, ed) })

pub skipped_end : (x l : List ℕ) → Skipped x l → length l < 4 → NoBlock x
skipped_end x l v h = λ w. v.same w ∙ blocks-short w l h

-- ---- w blocks
-- blocks that stand, before those that are found
abbrev prefixed : List ℕ → Found → Found
prefixed p (found l) = found (p ++ l)
prefixed p none = none

prefixed-block : (p : List ℕ) (a b c d : ℕ) (x : Found) → prefixed p (with_block a b c d x) ≡ prefixed (p ++ (a ∷ b ∷ c ∷ d ∷ [])) x
prefixed-block p a b c d (found l) = ap found (sym (append_assoc p (a ∷ b ∷ c ∷ d ∷ []) l))
prefixed-block p a b c d none = refl

pub record Searching (x : List ℕ) (w i : ℕ) (l rest : List ℕ) : Type 0 where
  pub left : blocks ten w x ≡ prefixed (take (4 * i) l) (blocks ten (w - i) rest)

module _ (x : List ℕ) (w i : ℕ) (l rest : List ℕ) (v : Searching x w i l rest) where
  pub searching_fails : i < w → NoBlock rest → blocks ten w x ≡ none
  searching_fails lt h = v.left ∙ rw (left-suc w i lt, h (w - (i + 1)))

  pub searching_more : i < w → (y : Block) (after l' : List ℕ) → FirstBlock rest y after
      → take (4 * (i + 1)) l' ≡ take (4 * i) l ++ (y.a ∷ y.b ∷ y.c ∷ y.d ∷ []) → Searching x w (i + 1) l' after
  searching_more lt y after l' f e =
      record {
        left = v.left
            ∙ ap (λ (n : ℕ). prefixed (take (4 * i) l) (blocks ten n rest)) (left-suc w i lt)
            ∙ ap (prefixed (take (4 * i) l)) (f.leads (w - (i + 1)))
            ∙ prefixed-block (take (4 * i) l) y.a y.b y.c y.d (blocks ten (w - (i + 1)) after)
            ∙ rw (← e);
      }

  pub searching_end : i ≡ w → length l ≡ 4 * w → blocks ten w x ≡ found l
  unfolding blocks
  searching_end q long =
      let z : w - i ≡ 0 = omega arith in
      v.left ∙ rw (z, append-nil, q, ← long) (ap found (take-length l))
