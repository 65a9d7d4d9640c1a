-- The generator's list is the generator of `theory`: so its shifts are code words, and independent.
use mathlib.Core.Path.{◌≡◌, refl, sym, ap, ap₂, ◌∙◌}
use mathlib.Core.List.{List}
use Prim.Native.Nat.{ℕ, zero, suc, ◌+◌, ◌-◌, ◌*◌, ◌≤◌, ◌<◌}
use native.Mathlib.Omega.{arith}
use lib.ListN.{length, get_or}
use lib.Pow.{pow_pos}
use borrow.Author.Tests.{lt-ltb, le-ltb}
use Rattle.lists.proofs.Tables.{length-tab, get_or-tab}
use Rattle.theory.specs.Word.{unit, sum, pow}
use Rattle.theory.specs.Code.{syn, IsCode, gen, G0}
use Rattle.theory.specs.Matrix.{comb}
use Rattle.theory.proofs.Place.{below_or}
use Rattle.theory.proofs.Sum.{sum-ext, unit-same, unit-other}
use Rattle.theory.proofs.Distance.{code-narrow}
use Rattle.theory.proofs.Generator.{product-nil, product-zero, product-suc, shifted-low, shifted_at, generator-code, generator-independent}
use Rattle.gf.specs.Field.{Modulus, width, size, alpha}
use Rattle.gf.proofs.Cyclic.{Cyclic, alpha-pos}
use Rattle.gf.proofs.Ring.{alpha-lt}
use Rattle.gf.proofs.Elements.{El, el, plus, times, el-xor, el-mul, el-nonzero}
use Rattle.code.specs.Words.{CodeWord}
use Rattle.code.specs.Generator.{generator, shifted}
use Rattle.code.proofs.Bridge.{K, X, word, point-pow, is_code}
use Rattle.code.proofs.Coefficients.{root-zeroth, root-next, generator-suc, generator-small}

module _ {F : Modulus} (field : Cyclic F) where
  -- α
  abbrev pub α : El F
  α = el F (alpha F 1)

  pow-point : (i : ℕ) → pow (K F field) α i ≡ X F field i
  pow-point i = let q : 1 * i ≡ i = omega arith in point-pow F field 1 i ∙ ap (λ (x : ℕ). el F (alpha F x)) q

  one_list : (j : ℕ) → word F field (generator F 0) j ≡ unit (K F field) 0 j
  unfolding generator
  one_list zero = sym (unit-same (K F field) 0 0 refl)
  one_list (suc j) = sym (unit-other (K F field) 0 (suc j) (omega arith))

  -- the list's coefficients are the generator's
  pub generator-is : (s j : ℕ) → word F field (generator F s) j ≡ gen (K F field) α s j
  unfolding gen
  generator-is zero j = one_list j ∙ sym (product-nil (K F field) _ j)
  generator-is (suc s) zero =
      ap (λ (l : List ℕ). word F field l 0) (generator-suc F s) ∙ ap (el F) (root-zeroth F (alpha F (suc s)) (generator F s)) ∙ el-mul F field _ _
      ∙ ap₂ (times F) (sym (pow-point (suc s))) (generator-is s 0) ∙ sym (product-zero (K F field) (λ i. pow (K F field) α (suc i)) s)
  generator-is (suc s) (suc j) =
      ap (λ (l : List ℕ). word F field l (suc j)) (generator-suc F s) ∙ ap (el F) (root-next F (alpha F (suc s)) (generator F s) j) ∙ el-xor F field _ _
      ∙ ap₂ (plus F) (generator-is s j) (el-mul F field _ _ ∙ ap₂ (times F) (sym (pow-point (suc s))) (generator-is s (suc j)))
      ∙ sym (product-suc (K F field) (λ i. pow (K F field) α (suc i)) s j)

  module _ (n i : ℕ) (g : List ℕ) where
    pub shifted-length : length (shifted n i g) ≡ n
    unfolding shifted
    shifted-length = length-tab n _

    pub shifted-before : (j : ℕ) → j < n → j < i → get_or (shifted n i g) j 0 ≡ 0
    unfolding shifted
    shifted-before j h b = get_or-tab n _ j h ∙ rw (lt-ltb j i b)

    pub shifted-from : (j : ℕ) → j < n → i ≤ j → get_or (shifted n i g) j 0 ≡ get_or g (j - i) 0
    unfolding shifted
    shifted-from j h b = get_or-tab n _ j h ∙ rw (le-ltb j i b)

  -- a shift of the list is a row of G0
  pub shifted-is : (n s i j : ℕ) → j < n → word F field (shifted n i (generator F s)) j ≡ G0 (K F field) α s i j
  unfolding G0
  shifted-is n s i j h =
      below_or j i
      (λ b. ap (el F) (shifted-before n i (generator F s) j h b) ∙ sym (shifted-low (K F field) (gen (K F field) α s) i j b))
      (λ b. ap (el F) (shifted-from n i (generator F s) j h b) ∙ generator-is s (j - i) ∙ sym (shifted_at (K F field) (gen (K F field) α s) i j (j - i) (omega arith)))

  -- the points by number, and as powers of α
  same_points : (n s : ℕ) (c : ℕ → El F) → IsCode (K F field) (pow (K F field) α) n s c → IsCode (K F field) (X F field) n s c
  same_points n s c h j k = unfold syn in sum-ext (K F field) _ _ n (λ i l. rw (pow-point i)) ∙ h j k

  -- THEOREM (generator, code). The shifts of the generator are code words.
  pub shifts-code : (n s i : ℕ) → i + s < n → CodeWord F n s (shifted n i (generator F s))
  shifts-code n s i h =
      is_code F field n s (shifted n i (generator F s)) (shifted-length n i (generator F s)) small
      (code-narrow (K F field) (X F field) n s (G0 (K F field) α s i) (word F field (shifted n i (generator F s))) (λ j g. sym (shifted-is n s i j g)) (same_points n s _ (generator-code (K F field) α s n i h)))
    where
      small : (j : ℕ) → j < n → get_or (shifted n i (generator F s)) j 0 < size F
      small j g =
          below_or j i (λ b. rw (shifted-before n i (generator F s) j g b) (pow_pos (width F))) (λ b. rw (shifted-from n i (generator F s) j g b) (generator-small F s (j - i)))

  -- THEOREM (generator, independent). Only the zero combination of k shifts vanishes, and their first k places already say so.
  pub shifts-independent : (n s k : ℕ) → k ≤ n → (x : ℕ → El F) → ((j : ℕ) → j < k → sum (K F field) (λ i. times F (x i) (word F field (shifted n i (generator F s)) j)) k ≡ (K F field).𝟎) → (i : ℕ) → i < k → x i ≡ (K F field).𝟎
  shifts-independent n s k le x h =
      generator-independent (K F field) α s (el-nonzero F field (alpha F 1) (alpha-pos field 1) (alpha-lt F 1)) k x
      (λ j g. unfold comb in sum-ext (K F field) _ _ k (λ i l. rw (← (shifted-is n s i j (omega arith)))) ∙ h j g)
