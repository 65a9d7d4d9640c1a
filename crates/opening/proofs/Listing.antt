-- Listing the places that pass a test: one more place a turn.
use mathlib.Core.Path.{◌≡◌, refl, sym, ◌∙◌}
use mathlib.Core.Bool.{Bool, true, false}
use mathlib.Core.List.{List, [], ◌∷◌, ◌++◌, append-nil}
use Prim.Native.Nat.{ℕ, zero, suc, ◌+◌, ◌≤◌, ◌<◌}
use native.Mathlib.Omega.{arith}
use native.Mathlib.Numerals.{add-one}
use native.Mathlib.Decide.{dec_lt}
use lib.ListN.{length, get_or, set, take, length-set, length-append, get_or-append}
use lib.Seq.{get_or-set_same, get_or-set_other, get_or-append_seam, get_or-take, ext_get_or, length-take-le}
use Rattle.lists.specs.Loops.{pick}
use Rattle.scheme.specs.Lists.{passing}
use Rattle.opening.specs.Listing.{Listed}

pub length-passing : (p : ℕ → Bool) (i n : ℕ) → length (passing p i n) ≤ n
unfolding passing
length-passing p i zero = omega arith
length-passing p i (suc n) = go (p (i + n)) (length-passing p i n)
  where
    go : (b : Bool) → length (passing p i n) ≤ n → length (passing p i n ++ pick b ((i + n) ∷ []) []) ≤ suc n
    go true h = rw length-append (omega arith)
    go false h = rw append-nil (omega arith)

pub listed_none : (p : ℕ → Bool) (i n : ℕ) (out : List ℕ) → n ≡ 0 → Listed (passing p i n) out 0
unfolding passing
listed_none p i n out e = rw e (record { count = refl; there = λ a h. absurd (omega arith) })

-- another place j: it does not pass, or it comes after those that do
module _ (p : ℕ → Bool) (i n : ℕ) (out : List ℕ) (r : ℕ) (C : Listed (passing p i n) out r) (j m : ℕ) (at : j ≡ i + n) (more : m ≡ n + 1) where
  pub listed_skip : p j ≡ false → Listed (passing p i m) out r
  unfolding passing
  listed_skip e = let f : p (i + n) ≡ false = rw at at e in rw (more, add-one n, f, append-nil) C

  grown : p j ≡ true → (out' : List ℕ) → length out' ≡ length out → ((a : ℕ) → a < r → get_or out' a 0 ≡ get_or out a 0)
      → (r < length out → get_or out' r 0 ≡ j) → Listed (passing p i m) out' (r + 1)
  unfolding passing
  grown e out' long old new =
      let f : p (i + n) ≡ true = rw at at e in
      rw (more, add-one n, f) (record { count = rw length-append (omega (arith, C.count)); there = λ a h g. go a h g (dec_lt a r) })
    where
      go : (a : ℕ) → a < r + 1 → a < length out' → Dec (a < r) → get_or out' a 0 ≡ get_or (passing p i n ++ ((i + n) ∷ [])) a 0
      go a h g (yes lt) = old a lt ∙ C.there a lt (omega arith) ∙ sym (get_or-append (passing p i n) ((i + n) ∷ []) 0 a (omega (arith, C.count)))
      go a h g (no d) =
          let q : a ≡ r = omega arith in
          let b : get_or out' a 0 ≡ i + n = rw q (new (omega arith) ∙ at) in
          let c : get_or (passing p i n ++ ((i + n) ∷ [])) a 0 ≡ i + n = rw (q, C.count) (get_or-append_seam (passing p i n) (i + n) [] 0) in
          b ∙ sym c

  pub listed_full : p j ≡ true → length out ≤ r → Listed (passing p i m) out (r + 1)
  listed_full e h = grown e out refl (λ a g. refl) (λ g. absurd (omega arith))

  pub listed_push : p j ≡ true → r < length out → Listed (passing p i m) (set out r j) (r + 1)
  listed_push e h =
      grown e (set out r j) (length-set out r j) (λ a g. get_or-set_other out r a j 0 (omega arith)) (λ g. get_or-set_same out r j 0 h)

-- the list, where there is room for all of it
pub listed-all : (L out : List ℕ) (r : ℕ) → Listed L out r → r ≤ length out → take r out ≡ L
listed-all L out r C h =
    ext_get_or 0 (take r out) L (length-take-le r out h ∙ C.count)
    (λ a g. let lt : a < r = omega (arith, length-take-le r out h) in get_or-take r out a 0 lt ∙ C.there a lt (omega arith))

-- and where there is room for the first of it
pub listed-first : (L out : List ℕ) (r : ℕ) → Listed L out r → length out ≤ r → out ≡ take (length out) L
listed-first L out r C h =
    ext_get_or 0 out (take (length out) L) (sym (length-take-le (length out) L (omega (arith, C.count))))
    (λ a g. C.there a (omega arith) g ∙ sym (get_or-take (length out) L a 0 g))
