-- The word that is decoded, element by element.
use mathlib.Core.Path.{◌≡◌, sym, ap, ◌∙◌}
use mathlib.Core.Bool.{true, false, false≢true}
use mathlib.Core.List.{List}
use Prim.Native.Nat.{ℕ, ◌+◌, ◌-◌, ◌*◌, ◌≤◌, ◌<◌}
use native.Mathlib.Omega.{arith}
use lib.ListN.{length, get_or}
use borrow.Author.Tests.{lt-ltb, le-ltb}
use lib.Seq.{ext_get_or}
use Rattle.std.specs.Prelude.{Result, Ok, Err, is_err}
use Rattle.lists.proofs.Tables.{length-tab, get_or-tab}
use Rattle.gf.specs.Field.{Modulus, ◌⊕◌, mul, size, order}
use Rattle.gf.specs.Ten.{ten}
use Rattle.gf.proofs.Ring.{mul-lt}
use Rattle.sets.specs.declared.Set.{Set}
use Rattle.scheme.specs.Keys.{Private, read}
use Rattle.scheme.specs.Opening.{kept, undone}
use Rattle.code.specs.Area.{decoding_room}
use Rattle.code.specs.Decoding.{Near, Decodes}
use Rattle.code.specs.declared.Undecodable.{Undecodable}
use Rattle.opening.specs.Given.{KeyGiven}

module _ (s : Set) (κ : Private) (y : List ℕ) where
  pub kept_plain : (j d : ℕ) → d ≡ s.n - s.w → j < d → kept s κ y j ≡ get_or y (get_or κ.q2 j 0) 0
  unfolding kept
  kept_plain j d e h = let g : j < s.n - s.w = rw e at h in rw (lt-ltb j (s.n - s.w) g)

  pub kept_mixed : (j d i : ℕ) → d ≡ s.n - s.w → d ≤ j → i ≡ 2 * (j - d)
      → kept s κ y j ≡ mul ten (get_or y (get_or κ.q2 (d + i) 0) 0) (get_or κ.columns i 0) ⊕ mul ten (get_or y (get_or κ.q2 (d + i + 1) 0) 0) (get_or κ.columns (i + 1) 0)
  unfolding kept
  kept_mixed j d i e h f = rw (f, e) (let g : s.n - s.w ≤ j = rw e at h in rw (le-ltb j (s.n - s.w) g))

  pub undone_is : (word : List ℕ) → length word ≡ s.n → ((j : ℕ) → j < s.n → get_or word j 0 ≡ mul ten (get_or κ.inverses j 0) (kept s κ y (get_or κ.q1 j 0))) → word ≡ undone s κ y
  unfolding undone
  undone_is word e h =
      ext_get_or 0 word _ (e ∙ sym (length-tab s.n _)) (λ j g. let lt : j < s.n = omega arith in h j lt ∙ sym (get_or-tab s.n _ j lt))

  pub undone-long : length (undone s κ y) ≡ s.n
  unfolding undone
  undone-long = length-tab s.n _

  pub undone-small : (i : ℕ) → i < s.n → get_or (undone s κ y) i 0 < size ten
  unfolding undone
  undone-small i h = rw (get_or-tab s.n _ i h) (mul-lt ten _ _)

-- what decoding asks of it
module _ (s : Set) (key : List ℕ) (G : KeyGiven s key) (y word : List ℕ) (e : word ≡ undone s (read s key) y) where
  long : length word ≡ s.n
  long = ap length e ∙ undone-long s (read s key) y

  pub word_half : s.t + s.t ≤ length word
  word_half = omega (arith, long, G.valid.code)

  pub word_order : length word ≤ order ten
  word_order = omega (arith, long, rw G.element at G.valid.points)

  pub word_small : (i : ℕ) → i < length word → get_or word i 0 < size ten
  word_small = rw (long, e) (undone-small s (read s key) y)

  pub word_room : (work : List ℕ) → decoding_room s.n s.t ≤ length work → decoding_room (length word) s.t ≤ length work
  word_room work h = rw long h

-- what it says of the word
module _ (F : Modulus) (n t : ℕ) (y z : List ℕ) (r : Result Unit Undecodable) (D : Decodes F n t y r z) where
  pub none_near : is_err r ≡ true → (c : List ℕ) → Near F n t y c → ⊥
  none_near e = go r D e
    where
      go : (r : Result Unit Undecodable) → Decodes F n t y r z → is_err r ≡ true → (c : List ℕ) → Near F n t y c → ⊥
      go (Err u) D e = D.1
      go (Ok u) D e = absurd (false≢true e)

  pub found_near : is_err r ≡ false → Near F n t y z
  found_near e = go r D e
    where
      go : (r : Result Unit Undecodable) → Decodes F n t y r z → is_err r ≡ false → Near F n t y z
      go (Ok u) D e = D
      go (Err u) D e = absurd (false≢true (sym e))
