-- The theorems of the code, of lists of numbers: the distance, the one code word near a word, and a code word's being zero by k of its
-- places. Over every modulus whose powers of α are all its elements but 0, for n at most their number.
use mathlib.Core.Path.{◌≡◌, refl, sym, ap, ◌∙◌}
use mathlib.Core.List.{List, []}
use Prim.Native.Nat.{ℕ, ◌+◌, ◌≤◌, ◌<◌}
use native.Mathlib.Omega.{arith}
use lib.ListN.{get_or}
use lib.Seq.{ext_get_or}
use Rattle.theory.specs.Word.{Places, wt}
use Rattle.theory.proofs.Weight.{wt-mono}
use Rattle.theory.proofs.Field.{add-zero}
use Rattle.theory.proofs.Distance.{vandermonde, unique, block}
use Rattle.gf.specs.Field.{Modulus, order}
use Rattle.gf.proofs.Cyclic.{Cyclic}
use Rattle.gf.proofs.Elements.{el, plus, el-injective, alpha-points}
use Rattle.code.specs.Words.{CodeWord, weight}
use Rattle.code.specs.Decoding.{Near, Decodes}
use Rattle.std.specs.Prelude.{Result, Ok, Err}
use Rattle.code.specs.declared.Undecodable.{Undecodable}
use Rattle.code.proofs.Bridge.{K, X, word, zero-of-el, code_is, wt-apart}

module _ {F : Modulus} (field : Cyclic F) (n : ℕ) (fits : n ≤ order F) where
  -- THEOREM (distance). A code word with at most n - k places that are not zero is zero.
  pub light-zero : (s : ℕ) (c : List ℕ) → CodeWord F n s c → weight n c ≤ s → (i : ℕ) → i < n → get_or c i 0 ≡ 0
  light-zero s c C w i h =
      let v : wt (K F field) (word F field c) n ≤ s = omega (arith, wt-apart F field n c [], wt-mono (K F field) (λ i. plus F (word F field c i) (word F field [] i)) (word F field c) n (λ j g e. sym (add-zero (K F field) _) ∙ e)) in
      zero-of-el F field (get_or c i 0) (C.small i h)
      (vandermonde (K F field) (X F field) n (alpha-points F field n fits) s (word F field c) v (code_is F field n s c C) i h)

  -- THEOREM (unique). Two code words within t places of one word are equal.
  pub near-once : (t : ℕ) (y a b : List ℕ) → Near F n t y a → Near F n t y b → a ≡ b
  near-once t y a b p q =
      ext_get_or 0 a b (p.code.long ∙ sym q.code.long)
      (λ i h. let g : i < n = omega (arith, p.code.long) in
      el-injective F field (get_or a i 0) (get_or b i 0) (p.code.small i g) (q.code.small i g)
      (unique (K F field) (X F field) n (alpha-points F field n fits) t (word F field y) (word F field a) (word F field b)
      (code_is F field n (t + t) a p.code) (code_is F field n (t + t) b q.code)
      (omega (arith, wt-apart F field n a y, p.close)) (omega (arith, wt-apart F field n b y, q.close)) i g))

  -- so what decoding answers and leaves is determined by the word
  pub decodes-once : (t : ℕ) (y : List ℕ) (r r' : Result Unit Undecodable) (z z' : List ℕ) → Decodes F n t y r z → Decodes F n t y r' z' → (r ≡ r') × (z ≡ z')
  decodes-once t y (Ok x) (Ok x') z z' p q = (refl, near-once t y z z' p q)
  decodes-once t y (Ok x) (Err x') z z' p q = absurd (q.1 z p)
  decodes-once t y (Err x) (Ok x') z z' p q = absurd (p.1 z' q)
  decodes-once t y (Err x) (Err x') z z' p q = (refl, p.0 ∙ sym q.0)

  -- THEOREM (block). A code word that is zero at k distinct places, where n - k power sums vanish, is zero.
  pub block-zero : (s k : ℕ) (c : List ℕ) (p : ℕ → ℕ) → CodeWord F n s c → n ≤ k + s → Places n k p → ((l : ℕ) → l < k → get_or c (p l) 0 ≡ 0) → (i : ℕ) → i < n → get_or c i 0 ≡ 0
  block-zero s k c p C q Q z i h =
      zero-of-el F field (get_or c i 0) (C.small i h)
      (block (K F field) (X F field) n (alpha-points F field n fits) s k (word F field c) p (code_is F field n s c C) q Q (λ l g. ap (el F) (z l g)) i h)
