-- The loop that collects places: after p of them, what it holds is right for the places below p.
use mathlib.Core.Path.{◌≡◌, sym, ◌∙◌}
use mathlib.Core.List.{List}
use Prim.Native.Nat.{ℕ, ◌+◌, ◌≤◌, ◌<◌}
use native.Mathlib.Omega.{arith}
use lib.ListN.{length, get_or, set, length-set}
use lib.Seq.{get_or-set_same, get_or-set_other}
use Rattle.theory.proofs.Place.{at-or}
use Rattle.code.specs.Stages.{Kept, passed, full, kept, Collected}

pub collected-none : (values l : List ℕ) → Collected values 0 l 0
collected-none values l =
    record {
      few = omega arith;
      below = λ k h. absurd (omega arith);
      rising = λ i k h g. absurd (omega arith);
      root = λ k h. absurd (omega arith);
      all = λ h i g. absurd (omega arith);
    }

module _ (values : List ℕ) (p : ℕ) (l : List ℕ) (r v : ℕ) (C : Collected values p l r) (read : v ≡ get_or values p 0) where
  pass : (v ≡ 0 → ⊥) → Collected values (p + 1) l r
  pass d =
      record {
        few = C.few;
        below = λ k g. omega (arith, C.below k g);
        rising = C.rising;
        root = C.root;
        all = λ g i q z. at-or i p (λ e. absurd (d (read ∙ rw e at z))) (λ o. C.all g i (omega arith) z);
      }

  stay : length l ≤ r → Collected values (p + 1) l r
  stay g =
      record {
        few = C.few;
        below = λ k q. omega (arith, C.below k q);
        rising = C.rising;
        root = C.root;
        all = λ q. absurd (omega arith);
      }

  module _ (zero-at : v ≡ 0) (lt : r < length l) where
    new : get_or (set l r p) r 0 ≡ p
    new = get_or-set_same l r p 0 lt

    old : (k : ℕ) → k < r → get_or (set l r p) k 0 ≡ get_or l k 0
    old k g = get_or-set_other l r k p 0 (omega arith)

    add : Collected values (p + 1) (set l r p) (r + 1)
    add =
        record {
          few = simp length-set (omega arith);
          below = λ k g. at-or k r (λ e. rw (e, new) (omega arith)) (λ d. let q : k < r = omega arith in rw (old k q) (omega (arith, C.below k q)));
          rising = λ i k g q. at-or k r
              (λ e. let q : i < r = omega arith in rw (e, new, old i q) (C.below i q))
              (λ d. let q : k < r = omega arith in let w : i < r = omega arith in rw (old k q, old i w) (C.rising i k g q));
          root = λ k g. at-or k r (λ e. rw (e, new) (sym read ∙ zero-at)) (λ d. let q : k < r = omega arith in rw (old k q) (C.root k q));
          all = λ g i q z. at-or i p (λ e. (r, omega arith, new ∙ sym e)) (λ d. more (C.all lt i (omega arith) z));
        }
      where
        more : {i : ℕ} → (k : ℕ) × (k < r) × (get_or l k 0 ≡ i) → (k : ℕ) × (k < r + 1) × (get_or (set l r p) k 0 ≡ i)
        more (k, g, e) = (k, omega arith, old k g ∙ e)

  pub collected-more : (l' : List ℕ) (r' : ℕ) → Kept p v l r l' r' → Collected values (p + 1) l' r'
  collected-more _ _ (passed d) = pass d
  collected-more _ _ (full g) = stay g
  collected-more _ _ (kept z g) = add z g
