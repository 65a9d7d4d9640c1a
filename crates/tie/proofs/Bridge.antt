-- The scheme's definitions on lists of numbers are those of `pairs` on their elements: sums, products and inverses of numbers are those
-- of their elements, and the tests are the decisions.
use mathlib.Core.Path.{◌≡◌, refl, ap, ap₂, ◌∙◌}
use mathlib.Core.List.{List}
use Prim.Native.Nat.{ℕ, zero, suc, ◌+◌, ◌-◌, ◌*◌, ◌<◌}
use lib.Pow.{pow_pos}
use lib.ListN.{get_or}
use Rattle.lists.proofs.Tables.{get_or-tab}
use Rattle.theory.specs.Field.{Field}
use Rattle.theory.specs.Word.{sum}
use Rattle.gf.specs.Field.{width, size}
use Rattle.gf.proofs.Xor.{add-lt}
use Rattle.gf.proofs.Ring.{mul-lt}
use Rattle.gf.proofs.Cyclic.{Cyclic}
use Rattle.gf.proofs.Ten.{ten-field}
use Rattle.gf.proofs.Elements.{El, el, plus, times, el-xor, el-mul, el-inverse}
use Rattle.gf.proofs.Elements as gf
use Rattle.sets.specs.declared.Set.{Set}
use Rattle.sets.specs.Valid.{Valid}
use Rattle.scheme.specs.Lists.{inverse_of}
use Rattle.scheme.specs.Field.{field_of}
use Rattle.scheme.specs.Keys.{Private}
use Rattle.scheme.specs.Sealing.{combined, encoded}
use Rattle.scheme.specs.Opening.{kept, undone, redone}
use Rattle.pairs.specs.Sizes.{Sizes}
use Rattle.pairs.specs.Key.{Key}
use Rattle.pairs.specs.Key as pairs
use Rattle.pairs.specs.Encoding as code
use Rattle.tie.proofs.Choices.{pick-lt}

-- the field of every set is one
pub field : (s : Set) → Cyclic (field_of s)
field s = ten-field

abbrev pub K : Set → Field
K s = gf.field_of (field_of s) (field s)

-- a number as an element, a list of numbers as a word
abbrev pub E : (s : Set) → ℕ → El (field_of s)
E s = el (field_of s)

abbrev pub word : (s : Set) → List ℕ → ℕ → El (field_of s)
word s l i = E s (get_or l i 0)

abbrev pub sizes : {s : Set} → Valid s → Sizes
sizes {s} ok = record { n = s.n; k = s.k; t = s.t; w = s.w; code = ok.code; room = ok.room }

abbrev pub ge_of : (s : Set) → List ℕ → ℕ → ℕ → El (field_of s)
ge_of s ge i j = E s (get_or ge (i * (s.n + s.w - s.k) + j) 0)

abbrev pub key_of : (s : Set) → Private → Key (K s)
key_of s κ =
    record {
      q1 = λ i. get_or κ.q1 i 0;
      q2 = λ i. get_or κ.q2 i 0;
      p1 = λ i. get_or (inverse_of κ.q1) i 0;
      p2 = λ i. get_or (inverse_of κ.q2) i 0;
      columns = word s κ.columns;
      inverses = word s κ.inverses;
      ge = ge_of s κ.ge;
    }

module _ (s : Set) where
  pub combined-el : (x : List ℕ) (k : ℕ) (M : ℕ → ℕ) → E s (combined (field_of s) x k M) ≡ sum (K s) (λ i. times (field_of s) (word s x i) (E s (M i))) k
  unfolding combined sum
  combined-el x zero M = refl
  combined-el x (suc k) M =
      el-xor _ (field s) _ _ ∙ ap₂ (plus (field_of s)) (combined-el x k M) (el-mul _ (field s) _ _)

  pub combined-lt : (x : List ℕ) (k : ℕ) (M : ℕ → ℕ) → combined (field_of s) x k M < size (field_of s)
  unfolding combined
  combined-lt x zero M = pow_pos (width (field_of s))
  combined-lt x (suc k) M = add-lt (width (field_of s)) _ _ (combined-lt x k M) (mul-lt (field_of s) _ _)

  pub encoded-el : (ge x : List ℕ) (j : ℕ) → E s (encoded s ge x j) ≡ code.encoded (K s) s.k (ge_of s ge) (word s x) j
  unfolding encoded code.encoded
  encoded-el ge x j = pick-lt (E s) j s.k refl (combined-el x s.k _)

module _ (s : Set) (ok : Valid s) (κ : Private) where
  pub kept-el : (y : List ℕ) (j : ℕ) → E s (kept s κ y j) ≡ pairs.kept (K s) (sizes ok) (key_of s κ) (word s y) j
  unfolding kept pairs.kept
  kept-el y j =
      pick-lt (E s) j (s.n - s.w) refl (el-xor _ (field s) _ _ ∙ ap₂ (plus (field_of s)) (el-mul _ (field s) _ _) (el-mul _ (field s) _ _))

  pub undone-el : (y : List ℕ) (j : ℕ) → j < s.n → word s (undone s κ y) j ≡ pairs.undone (K s) (sizes ok) (key_of s κ) (word s y) j
  unfolding undone pairs.undone
  undone-el y j l =
      ap (E s) (get_or-tab s.n _ j l) ∙ el-mul _ (field s) _ _ ∙ ap (times (field_of s) _) (kept-el y _)

  pub redone-el : (c : List ℕ) (j : ℕ) → E s (redone s κ c j) ≡ pairs.redone (K s) (sizes ok) (key_of s κ) (word s c) j
  unfolding redone pairs.redone
  redone-el c j = el-mul _ (field s) _ _ ∙ ap (times (field_of s) _) (el-inverse _ (field s) _)
