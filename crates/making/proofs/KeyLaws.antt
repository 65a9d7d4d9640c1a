-- The parts of both keys.
use Rattle.std.proofs.Common.{◌≡◌, refl, sym, ap, ◌∙◌, ℕ, zero, suc, ◌+◌, ◌-◌, ◌*◌, ◌≤◌, ◌<◌, List, [], ◌∷◌, length, get_or, set, take, drop, replicate, arith}
use native.Mathlib.Nat.{add_assoc}
use lib.Seq.{ext_get_or, get_or-take, get_or-drop}
use lib.ListN.{length-drop, length-replicate}
use lib.Seq.{length-take-le}
use Rattle.lists.specs.Loops.{tab, turns}
use Rattle.gf.specs.Field.{Modulus, inverse}
use Rattle.gf.specs.Ten.{ten}
use Rattle.perm.specs.Perm.{Perm, inverted}
use Rattle.perm.proofs.Permutations.{inverse-unique, entries-low}
use Rattle.perm.proofs.Inverting.{inverted-inverse}
use Rattle.linear.specs.Matrix.{entry}
use Rattle.scheme.specs.Lists.{inverse_of}
use Rattle.scheme.specs.Setup.{inverses}
use Rattle.making.proofs.Filled.{tab_of}

-- ---- the inverses of elements
pub length-inverses : (F : Modulus) (l : List ℕ) → length (inverses F l) ≡ length l
unfolding inverses
length-inverses F [] = refl
length-inverses F (x ∷ l) = ap suc (length-inverses F l)

pub inverses-at : (F : Modulus) (l : List ℕ) (i : ℕ) → i < length l → get_or (inverses F l) i 0 ≡ inverse F (get_or l i 0)
unfolding inverses
inverses-at F [] i h = absurd (omega arith)
inverses-at F (x ∷ l) zero h = refl
inverses-at F (x ∷ l) (suc i) h = inverses-at F l i (omega arith)

pub inverses_of : (l r : List ℕ) → length r ≡ length l → ((i : ℕ) → i < length l → get_or r i 0 ≡ inverse ten (get_or l i 0)) → r ≡ inverses ten l
inverses_of l r e h =
    ext_get_or 0 r (inverses ten l) (e ∙ sym (length-inverses ten l)) (λ i g. let lt : i < length l = omega arith in h i lt ∙ sym (inverses-at ten l i lt))

-- ---- a row's end
pub right_row : (k u i : ℕ) (l : List ℕ) → k ≤ u → i * u + u ≤ length l → take (i * u + u - (i * u + k)) (drop (i * u + k) l) ≡ tab (u - k) (λ j. entry u l i (k + j))
right_row k u i l h fits =
    let n : i * u + u - (i * u + k) ≡ u - k = omega arith in
    let long : length (take (u - k) (drop (i * u + k) l)) ≡ u - k = length-take-le (u - k) (drop (i * u + k) l) (rw length-drop (omega arith)) in
    rw n (tab_of (u - k) _ (take (u - k) (drop (i * u + k) l)) long
    (λ q g. get_or-take (u - k) (drop (i * u + k) l) q 0 g ∙ get_or-drop (i * u + k) l q 0 ∙ ap (λ (x : ℕ). get_or l x 0) (add_assoc (i * u) k q)))

-- ---- the inverse of a permutation, whatever stood there
pub inverse_any : (p q : List ℕ) → length q ≡ length p → Perm p → inverted p q ≡ inverse_of p
inverse_any p q l perm =
    inverse-unique p (inverted p q) (inverse_of p) (inverted-inverse p q l (entries-low p perm) perm)
    (inverted-inverse p (replicate (length p) 0) (length-replicate (length p) 0) (entries-low p perm) perm)

pub inverse_end : (p q l : List ℕ) (i : ℕ) → l ≡ turns (λ k r. set r (get_or p k 0) k) i q → i ≡ length p → length q ≡ length p → Perm p → l ≡ inverse_of p
unfolding inverted
inverse_end p q l i e z long perm = e ∙ rw z (inverse_any p q long perm)

-- ---- the first byte
pub first_byte : (l : List ℕ) (b : ℕ) → length l ≡ 1 → set l 0 b ≡ b ∷ []
first_byte [] b h = absurd (omega arith)
first_byte (x ∷ []) b h = refl
first_byte (x ∷ y ∷ l) b h = absurd (omega arith)
