-- The identity matrix beside a square matrix: the left half is as it was, the right half is the identity.
use mathlib.Core.Path.{◌≡◌, refl, sym, ◌∙◌}
use mathlib.Core.Logic.{⊎_elim, inl, inr, ◌≢◌}
use mathlib.Core.List.{List}
use Prim.Native.Nat.{ℕ, zero, suc, ◌+◌, ◌*◌, ◌-◌, ◌≤◌, ◌<◌}
use native.Mathlib.Omega.{arith}
use native.Mathlib.Nat.{add_assoc}
use lib.ListN.{length, get_or, set}
use borrow.Author.Tests.{eq-eqb, ne_eqb}
use Rattle.lists.specs.Loops.{turns}
use Rattle.lists.proofs.Loops.{turns_more}
use Rattle.theory.proofs.Place.{at-or, below_or}
use Rattle.gf.specs.Field.{Modulus, size}
use Rattle.gf.proofs.Ring.{one-lt}
use Rattle.gf.proofs.Stores.{Off, stores-length, stores-off, stores_at}
use Rattle.linear.specs.Matrix.{Matrix, entry}
use Rattle.linear.specs.Inverse.{LeftHalf, identity, identity_at, identity_run, beside_row, beside}
use Rattle.linear.proofs.Steps.{row_within}
use Rattle.linear.proofs.Entries.{rows-off}

-- ---- what the code's loops store
pub identity-more : (at i j : ℕ) (l₀ l : List ℕ) (v : ℕ) → l ≡ turns (identity_at at i) j l₀ → v ≡ identity i j → set l (at + j) v ≡ turns (identity_at at i) (j + 1) l₀
identity-more at i j l₀ l v e q = rw q (turns_more _ j l₀ l e)

pub beside-more : (n i : ℕ) (l₀ l l' : List ℕ) → l ≡ turns (beside_row n) i l₀ → l' ≡ beside_row n i l → l' ≡ turns (beside_row n) (i + 1) l₀
beside-more n i l₀ l l' e q = q ∙ turns_more _ i l₀ l e

-- ---- the entries
module _ (at i n : ℕ) (l : List ℕ) where
  run_length : length (identity_run at i n l) ≡ length l
  unfolding identity_run
  run_length = stores-length at (λ j x. identity i j) n l

  run-off : (p : ℕ) → Off at n p → get_or (identity_run at i n l) p 0 ≡ get_or l p 0
  unfolding identity_run
  run-off = stores-off at (λ j x. identity i j) n l

  run_at : at + n ≤ length l → (j : ℕ) → j < n → get_or (identity_run at i n l) (at + j) 0 ≡ identity i j
  unfolding identity_run
  run_at fits j h = stores_at at (λ j x. identity i j) n l j h fits

module _ (n : ℕ) (l : List ℕ) where
  abbrev upto : ℕ → List ℕ
  upto k = turns (beside_row n) k l

  upto_zero : upto 0 ≡ l
  unfolding turns
  upto_zero = refl

  upto-suc : (k : ℕ) → upto (suc k) ≡ identity_run (k * (n + n) + n) k n (upto k)
  unfolding turns
  upto-suc k = refl

  upto-length : (k : ℕ) → length (upto k) ≡ length l
  upto-length zero = rw upto_zero
  upto-length (suc k) = rw upto-suc (run_length (k * (n + n) + n) k n (upto k) ∙ upto-length k)

  -- another row
  upto-kept : (k i j : ℕ) → i ≢ k → j < n + n → entry (n + n) (upto (suc k)) i j ≡ entry (n + n) (upto k) i j
  upto-kept k i j d h = rw upto-suc (run-off (k * (n + n) + n) k n (upto k) (i * (n + n) + j) (⊎_elim (λ a. inl (omega arith)) (λ b. inr (omega arith)) (rows-off (n + n) k i j (λ e. d (sym e)) h)))

  upto_left : (k i j : ℕ) → j < n → entry (n + n) (upto k) i j ≡ entry (n + n) l i j
  upto_left zero i j h = rw upto_zero
  upto_left (suc k) i j h =
      at-or i k (λ e. rw (e, upto-suc k) (run-off (k * (n + n) + n) k n (upto k) (k * (n + n) + j) (inl (omega arith)) ∙ upto_left k k j h))
      (λ d. upto-kept k i j d (omega arith) ∙ upto_left k i j h)

  upto-right : n * (n + n) ≤ length l → (k i j : ℕ) → k ≤ n → i < k → j < n → entry (n + n) (upto k) i (n + j) ≡ identity i j
  upto-right fits zero i j le h g = absurd (omega arith)
  upto-right fits (suc k) i j le h g =
      at-or i k
      (λ e. rw (e, upto-suc k, ← (add_assoc (k * (n + n)) n j)) (
      run_at (k * (n + n) + n) k n (upto k) (omega (arith, row_within k n (n + n) (length l) (length (upto k)) le fits (upto-length k))) j g))
      (λ d. upto-kept k i (n + j) d (omega arith) ∙ upto-right fits k i j (omega arith) (omega arith) g)

  pub beside-left : (i j : ℕ) → j < n → entry (n + n) (beside n l) i j ≡ entry (n + n) l i j
  unfolding beside
  beside-left i j h = upto_left n i j h

  pub beside-right : n * (n + n) ≤ length l → (i j : ℕ) → i < n → j < n → entry (n + n) (beside n l) i (n + j) ≡ identity i j
  unfolding beside
  beside-right fits i j h g = upto-right fits n i j (omega arith) h g

  pub beside-length : length (beside n l) ≡ length l
  unfolding beside
  beside-length = upto-length n

  identity-small : (F : Modulus) (i j : ℕ) → identity i j < size F
  identity-small F i j =
      at-or i j (λ e. rw (eq-eqb i j e) (one-lt F)) (λ d. rw (ne_eqb i j d) (omega (arith, one-lt F)))

  pub beside-matrix : (F : Modulus) → LeftHalf F n l → Matrix F n (n + n) (beside n l)
  beside-matrix F H =
      record {
        fits = rw beside-length H.fits;
        small = λ i j hi hj. below_or j n (λ h. rw (beside-left i j h) (H.small i j hi h))
            (λ h. right i j hi (j - n) (omega arith) (omega arith));
      }
    where
      right : (i j : ℕ) → i < n → (k : ℕ) → k < n → n + k ≡ j → entry (n + n) (beside n l) i j < size F
      right i j hi k h e = rw (← e, beside-right H.fits i k hi h) (identity-small F i k)
