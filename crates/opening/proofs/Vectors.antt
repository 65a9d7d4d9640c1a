-- The elements that are read back.
use mathlib.Core.Path.{◌≡◌, refl}
use mathlib.Core.List.{List}
use Prim.Native.Nat.{ℕ, ◌-◌, ◌≤◌, ◌<◌}
use native.Mathlib.Omega.{arith}
use borrow.Author.Tests.{lt-ltb, le-ltb}
use lib.ListN.{get_or}
use Rattle.gf.specs.Field.{◌⊕◌, mul, inverse}
use Rattle.gf.specs.Ten.{ten}
use Rattle.sets.specs.declared.Set.{Set}
use Rattle.scheme.specs.Lists.{inverse_of}
use Rattle.scheme.specs.Keys.{Private}
use Rattle.scheme.specs.Opening.{redone, placed, unmixed, places_t}
use Rattle.opening.specs.Vector.{known_of, side_of}

module _ (s : Set) (κ : Private) (c : List ℕ) where
  pub redone_is : (first : List ℕ) (i j : ℕ) → first ≡ inverse_of κ.q1 → i ≡ get_or first j 0 → mul ten (get_or c i 0) (inverse ten (get_or κ.inverses i 0)) ≡ redone s κ c j
  unfolding redone
  redone_is first i j e f = rw (f, e) refl

  pub known_plain : (second : List ℕ) (p d i : ℕ) → second ≡ inverse_of κ.q2 → p ≡ get_or second i 0 → d ≡ s.n - s.w → p < d → redone s κ c p ≡ known_of s κ c i
  unfolding known_of unmixed placed
  known_plain second p d i e f g h =
      let q : p ≡ get_or (inverse_of κ.q2) i 0 = rw e at f in
      let l : get_or (inverse_of κ.q2) i 0 < s.n - s.w = omega arith in
      rw (lt-ltb (get_or (inverse_of κ.q2) i 0) (s.n - s.w) l, q) refl

  pub known_mixed : (second : List ℕ) (p d i : ℕ) → second ≡ inverse_of κ.q2 → p ≡ get_or second i 0 → d ≡ s.n - s.w → d ≤ p → 0 ≡ known_of s κ c i
  unfolding known_of unmixed placed
  known_mixed second p d i e f g h =
      let q : p ≡ get_or (inverse_of κ.q2) i 0 = rw e at f in
      let l : s.n - s.w ≤ get_or (inverse_of κ.q2) i 0 = omega arith in
      rw (le-ltb (get_or (inverse_of κ.q2) i 0) (s.n - s.w) l) refl

  pub side_is : (second plain tail : List ℕ) (b p q : ℕ) → second ≡ inverse_of κ.q2 → plain ≡ places_t s κ → p ≡ get_or plain b 0 → q ≡ get_or second p 0
      → get_or tail (p - s.k) 0 ⊕ redone s κ c q ≡ side_of s κ c tail b
  unfolding side_of placed
  side_is second plain tail b p q e f g h = rw (h, e, g, f) refl
