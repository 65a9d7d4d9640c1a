-- The rules of the two tables. Each is one test that antt computes over the whole table, and one law that carries it to every entry.
use mathlib.Core.Path.{◌≡◌, sym, ◌∙◌}
use mathlib.Core.Bool.{Bool, true, ◌&&◌, ◌||◌}
use mathlib.Core.List.{List, [], ◌∷◌}
use Prim.Native.Nat.{ℕ, zero, suc, ◌+◌, ◌<◌}
use native.Mathlib.Nat.{le_of_suc-le-suc, not-suc-le-zero, add-zero, zero-add, add-suc, suc-add}
use lib.Dec.{T, eqb, eqb→eq}
use lib.ListN.{length, get_or}
use Rattle.gf.specs.Field.{Modulus, times_x, shift, Logarithm}
use Rattle.gf.proofs.Ring.{shift_zero, shift_in}
use Rattle.gf.proofs.Test.{Tree, test, both, unless, reaches, reached}

-- ---- powers: the first entry is v, and each further one the previous times α
unfoldable pub steps : Modulus → ℕ → List ℕ → Bool
steps F v [] = true
steps F v (x ∷ xs) = eqb x v && steps F (times_x F x) xs

-- so the entry i is v times α to the i
pub step-rule : (F : Modulus) (v : ℕ) (xs : List ℕ) → T (steps F v xs) → (i : ℕ) → i < length xs → get_or xs i 0 ≡ shift F i v
unfolding steps
step-rule F v [] t i h = absurd (not-suc-le-zero h)
step-rule F v (x ∷ xs) t zero h = eqb→eq x v (both (eqb x v) _ t).0 ∙ sym (shift_zero F v)
step-rule F v (x ∷ xs) t (suc i) h =
    let s = both (eqb x v) _ t in
    step-rule F (times_x F x) xs s.1 i (le_of_suc-le-suc h) ∙ rw (eqb→eq x v s.0) (shift_in F i v)

-- ---- logarithms: at each place from a on, but 0, stands the power that reaches it
unfoldable pub logged : Modulus → Tree → Tree → ℕ → List ℕ → Bool
logged F P L a [] = true
logged F P L a (x ∷ xs) = (eqb a 0 || reaches F P L a x) && logged F P L (suc a) xs

module _ (F : Modulus) (P L : Tree) (t : T (test F P L)) where
  logged-from : (a : ℕ) (xs : List ℕ) → T (logged F P L a xs) → (j : ℕ) → j < length xs → 0 < a + j → Logarithm F (a + j) (get_or xs j 0)
  unfolding logged
  logged-from a [] l j h pos = absurd (not-suc-le-zero h)
  logged-from a (x ∷ xs) l zero h pos =
      let s = (both (eqb a 0 || reaches F P L a x) _ l).0 in
      rw (add-zero a) (reached F P L t a x (unless a (reaches F P L a x) (rw (add-zero a) at pos) s))
  logged-from a (x ∷ xs) l (suc j) h pos =
      let s = (both (eqb a 0 || reaches F P L a x) _ l).1 in
      rw (add-suc a j, ← suc-add a j) (logged-from (suc a) xs s j (le_of_suc-le-suc h) (rw (suc-add a j, ← add-suc a j) pos))

  pub log-rule : (xs : List ℕ) → T (logged F P L 0 xs) → (a : ℕ) → a < length xs → 0 < a → Logarithm F a (get_or xs a 0)
  log-rule xs l a h pos = rw (zero-add a) at (logged-from 0 xs l a h (rw (zero-add a) pos))
