-- The generator's coefficients: each step of the recursion read at a place, and the loops that compute it.
use mathlib.Core.Path.{◌≡◌, refl, sym, ap, ap₂, ◌∙◌}
use mathlib.Core.List.{List, ◌∷◌}
use Prim.Native.Nat.{ℕ, zero, suc, ◌+◌, ◌-◌, ◌≤◌, ◌<◌}
use native.Mathlib.Omega.{arith}
use lib.ListN.{length, get_or, set, replicate, length-set, length-replicate, get_or-replicate, get_or-eq_default}
use lib.Seq.{get_or-set_same, get_or-set_other, ext_get_or}
use Rattle.lists.specs.Loops.{tab}
use Rattle.lists.proofs.Tables.{length-tab, get_or-tab}
use Rattle.theory.proofs.Place.{at-or, below_or}
use Rattle.gf.specs.Field.{Modulus, width, size, ◌⊕◌, mul, alpha}
use Rattle.gf.proofs.Xor.{add-lt}
use Rattle.gf.proofs.Ring.{mul-lt, mul-zero-right, one-lt}
use Rattle.code.specs.Generator.{with_root, generator, TimesRoot}

module _ (F : Modulus) (a : ℕ) (p : List ℕ) where
  root-length : length (with_root F a p) ≡ suc (length p)
  unfolding with_root
  root-length = length-tab (suc (length p)) _

  -- past the end both sides are 0
  root-at : (j : ℕ) → get_or (with_root F a p) j 0 ≡ get_or (0 ∷ p) j 0 ⊕ mul F a (get_or p j 0)
  unfolding with_root
  root-at j =
      below_or j (suc (length p)) (λ h. get_or-tab (suc (length p)) (λ j. get_or (0 ∷ p) j 0 ⊕ mul F a (get_or p j 0)) j h)
      (λ h.
      let e : length (tab (suc (length p)) (λ j. get_or (0 ∷ p) j 0 ⊕ mul F a (get_or p j 0))) ≤ j = rw length-tab h in
      let f : length p ≤ j = omega arith in
      let g : length (0 ∷ p) ≤ j = h in
      get_or-eq_default (tab (suc (length p)) (λ j. get_or (0 ∷ p) j 0 ⊕ mul F a (get_or p j 0))) 0 e ∙ sym (rw (get_or-eq_default (0 ∷ p) 0 g, get_or-eq_default p 0 f, mul-zero-right F a)))

  pub root-zeroth : get_or (with_root F a p) 0 0 ≡ mul F a (get_or p 0 0)
  root-zeroth = root-at 0

  pub root-next : (j : ℕ) → get_or (with_root F a p) (suc j) 0 ≡ get_or p j 0 ⊕ mul F a (get_or p (suc j) 0)
  root-next j = root-at (suc j)

module _ (F : Modulus) where
  pub generator-length : (s : ℕ) → length (generator F s) ≡ suc s
  unfolding generator
  generator-length zero = refl
  generator-length (suc s) = root-length F (alpha F (suc s)) (generator F s) ∙ ap suc (generator-length s)

  pub generator-suc : (s : ℕ) → generator F (suc s) ≡ with_root F (alpha F (suc s)) (generator F s)
  unfolding generator
  generator-suc s = refl

  pub generator-small : (s j : ℕ) → get_or (generator F s) j 0 < size F
  generator-small zero j = small j
    where
      small : (j : ℕ) → get_or (generator F 0) j 0 < size F
      small zero = unfold generator in one-lt F
      small (suc j) = unfold generator in omega (arith, one-lt F)
  generator-small (suc s) zero = rw (generator-suc s, root-zeroth) (mul-lt F _ _)
  generator-small (suc s) (suc j) = rw (generator-suc s, root-next) (add-lt (width F) _ _ (generator-small s j) (mul-lt F _ _))

-- ---- a pass from the last coefficient down: those past j are done
pub record Passed (F : Modulus) (a j : ℕ) (l l' : List ℕ) : Type 0 where
  pub long : length l' ≡ length l
  pub done : (i : ℕ) → j ≤ i → suc i < length l → get_or l' (suc i) 0 ≡ get_or l i 0 ⊕ mul F a (get_or l (suc i) 0)
  pub left : (i : ℕ) → i ≤ j → get_or l' i 0 ≡ get_or l i 0

module _ (F : Modulus) (a : ℕ) (l₀ : List ℕ) where
  pub passed_none : Passed F a (length l₀ - 1) l₀ l₀
  passed_none = record { long = refl; done = λ i h g. absurd (omega arith); left = λ i h. refl }

  pub passed-more : (j : ℕ) (l : List ℕ) (x : ℕ) → Passed F a j l₀ l → 0 < j → j < length l₀ → x ≡ mul F a (get_or l j 0) → Passed F a (j - 1) l₀ (set l j (get_or l (j - 1) 0 ⊕ x))
  passed-more j l x P pos lt e =
      record {
        long = simp length-set P.long;
        done = λ i h g. at-or (suc i) j
            (λ q.
            let z : j - 1 ≡ i = omega arith in
            rw (q, z) (get_or-set_same l j (get_or l i 0 ⊕ x) 0 (omega (arith, P.long)) ∙ rw e (ap₂ (λ (u v : ℕ). u ⊕ mul F a v) (P.left i (omega arith)) (P.left j (omega arith)))))
            (λ d. get_or-set_other l j (suc i) _ 0 d ∙ P.done i (omega arith) g);
        left = λ i h. get_or-set_other l j i _ 0 (omega arith) ∙ P.left i (omega arith);
      }

  pub passed-end : (j : ℕ) (l : List ℕ) (x : ℕ) → Passed F a j l₀ l → j ≤ 0 → 0 < length l₀ → x ≡ mul F a (get_or l 0 0) → TimesRoot F a l₀ (set l 0 x)
  passed-end j l x P h pos e =
      record {
        long = simp length-set P.long;
        zeroth = get_or-set_same l 0 x 0 (omega (arith, P.long)) ∙ e ∙ ap (mul F a) (P.left 0 (omega arith));
        next = λ i g. get_or-set_other l 0 (suc i) x 0 (omega arith) ∙ P.done i (omega arith) g;
      }

-- ---- the loop: the coefficients of the product of the first s factors, zeros after them
abbrev pub Holds : List ℕ → List ℕ → Type 0
Holds g l = (j : ℕ) → j < length l → get_or l j 0 ≡ get_or g j 0

pub holds-one : (F : Modulus) (n : ℕ) (l : List ℕ) → l ≡ replicate n 0 → 0 < n → Holds (generator F (1 - 1)) (set l 0 1)
unfolding generator
holds-one F n l e pos zero h = get_or-set_same l 0 1 0 (omega (arith, ap length e, length-replicate {A = ℕ} n 0))
holds-one F n l e pos (suc j) h =
    let k : suc j < length l = rw (length-set l 0 1) at h in
    get_or-set_other l 0 (suc j) 1 0 (omega arith) ∙ rw e (get_or-replicate n (suc j) 0 0 (omega (arith, ap length e, length-replicate {A = ℕ} n 0)))

pub holds_more : (F : Modulus) (i a : ℕ) (l l' : List ℕ) → Holds (generator F (i - 1)) l → 0 < i → a ≡ alpha F i → TimesRoot F a l l' → Holds (generator F (i + 1 - 1)) l'
holds_more F zero a l l' H pos e T j h = absurd (omega arith)
holds_more F (suc s) a l l' H pos e T j h =
    let z : suc s - 1 ≡ s = omega arith in
    let q : suc s + 1 - 1 ≡ suc s = omega arith in
    let G : Holds (generator F s) l = rw z at H in
    rw (q, generator-suc F s, ← e) (go j h G)
  where
    go : (j : ℕ) → j < length l' → Holds (generator F s) l → get_or l' j 0 ≡ get_or (with_root F a (generator F s)) j 0
    go zero h G = T.zeroth ∙ ap (mul F a) (G 0 (omega (arith, T.long))) ∙ sym (root-zeroth F a (generator F s))
    go (suc j) h G =
        let k : suc j < length l = omega (arith, T.long) in
        T.next j k ∙ ap₂ (λ (u v : ℕ). u ⊕ mul F a v) (G j (omega arith)) (G (suc j) k) ∙ sym (root-next F a (generator F s) j)

pub holds-end : (F : Modulus) (n i : ℕ) (l : List ℕ) → Holds (generator F (i - 1)) l → 0 < i → i ≤ n → n ≤ i → n ≡ length l → l ≡ generator F (n - 1)
holds-end F n i l H pos h g e =
    let q : i ≡ n = omega arith in
    let G : Holds (generator F (n - 1)) l = rw q at H in
    ext_get_or 0 l (generator F (n - 1)) (omega (arith, generator-length F (n - 1))) G
