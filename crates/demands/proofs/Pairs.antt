-- Good pairs of the scheme are those of `pairs`: the rows of [I, GE] are the same words, and so are their undone words.
use mathlib.Core.Path.{◌≡◌, refl, sym, ap, ◌∙◌}
use mathlib.Core.List.{List}
use Prim.Native.Nat.{ℕ, ◌+◌, ◌-◌, ◌<◌}
use lib.ListN.{length, get_or}
use Rattle.lists.proofs.Tables.{length-tab, get_or-tab}
use Rattle.theory.specs.Word.{unit, put}
use Rattle.theory.proofs.Distance.{code-narrow}
use Rattle.gf.specs.Field.{size}
use Rattle.gf.proofs.Ring.{mul-lt}
use Rattle.gf.proofs.Elements.{El}
use Rattle.sets.specs.declared.Set.{Set}
use Rattle.sets.specs.Valid.{Valid}
use Rattle.code.specs.Words.{CodeWord}
use Rattle.code.proofs.Bridge.{X, code_is, is_code}
use Rattle.scheme.specs.Field.{field_of}
use Rattle.scheme.specs.Keys.{Private}
use Rattle.scheme.specs.Opening.{undone, places_i, places_t, Singular}
use Rattle.pairs.specs.Key as pairs
use Rattle.pairs.specs.Encoding as pairs-code
use Rattle.pairs.specs.Good as good
use Rattle.pairs.proofs.Undo.{undone-ext}
use Rattle.demands.specs.Demands.{public_row}
use Rattle.tie.proofs.Choices.{pick-lt, pick-eq}
use Rattle.tie.proofs.Bridge.{field, K, E, word, sizes, ge_of, key_of, undone-el}
use Rattle.demands.proofs.Sound.{Sound, sound-well}
use Rattle.tie.proofs.Regular.{regular-el}

pub row-el : (s : Set) (ge : List ℕ) (i j : ℕ) → j < s.n + s.w → word s (public_row s ge i) j ≡ pairs-code.public (K s) s.k (ge_of s ge) i j
unfolding public_row pairs-code.public unit put
row-el s ge i j l = ap (E s) (get_or-tab (s.n + s.w) _ j l) ∙ pick-lt (E s) j s.k (pick-eq (E s) j i refl refl) refl

module _ (s : Set) (ok : Valid s) (κ : Private) (S : Sound s κ) where
  pub undone-long : (y : List ℕ) → length (undone s κ y) ≡ s.n
  unfolding undone
  undone-long y = length-tab s.n _

  pub undone-small : (y : List ℕ) (i : ℕ) → i < s.n → get_or (undone s κ y) i 0 < size (field_of s)
  unfolding undone
  undone-small y i l = rw (get_or-tab s.n _ i l) (mul-lt (field_of s) _ _)

  -- a word that is given by its elements, undone
  pub undone-as : (y : List ℕ) (z : ℕ → El (field_of s)) → ((j : ℕ) → j < s.n + s.w → word s y j ≡ z j) → (i : ℕ) → i < s.n
      → word s (undone s κ y) i ≡ pairs.undone (K s) (sizes ok) (key_of s κ) z i
  undone-as y z e i l = undone-el s ok κ y i l ∙ undone-ext (K s) (sizes ok) (key_of s κ) (sound-well ok κ S) (word s y) z e i l

  module _ (y : List ℕ) (z : ℕ → El (field_of s)) (e : (j : ℕ) → j < s.n + s.w → word s y j ≡ z j) where
    pub lands-el : CodeWord (field_of s) s.n (s.n - s.k) (undone s κ y) → good.Lands (K s) (sizes ok) (X (field_of s) (field s)) (key_of s κ) z
    lands-el C =
        code-narrow (K s) (X (field_of s) (field s)) s.n (s.n - s.k) _ _ (undone-as y z e) (code_is (field_of s) (field s) s.n (s.n - s.k) (undone s κ y) C)

    pub el-lands : good.Lands (K s) (sizes ok) (X (field_of s) (field s)) (key_of s κ) z → CodeWord (field_of s) s.n (s.n - s.k) (undone s κ y)
    el-lands C =
        is_code (field_of s) (field s) s.n (s.n - s.k) (undone s κ y) (undone-long y) (undone-small y)
        (code-narrow (K s) (X (field_of s) (field s)) s.n (s.n - s.k) _ _ (λ i l. sym (undone-as y z e i l)) C)

  abbrev pub IsGood : Type 0
  IsGood =
      good.Good (K s) (sizes ok) (X (field_of s) (field s)) (key_of s κ) (length (places_i s κ)) (λ a. get_or (places_i s κ) a 0) (λ b. get_or (places_t s κ) b 0)

  pub good-el : ((i : ℕ) → i < s.k → CodeWord (field_of s) s.n (s.n - s.k) (undone s κ (public_row s κ.ge i))) → (Singular s κ → ⊥) → IsGood
  good-el rows none =
      record { rows = λ i l. lands-el (public_row s κ.ge i) _ (row-el s κ.ge i) (rows i l); regular = regular-el s κ none }

  pub rows-good : IsGood → (i : ℕ) → i < s.k → CodeWord (field_of s) s.n (s.n - s.k) (undone s κ (public_row s κ.ge i))
  rows-good G i l = el-lands (public_row s κ.ge i) _ (row-el s κ.ge i) (G.rows i l)
