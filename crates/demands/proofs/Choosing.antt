-- Sealing's choice of a block is exact: what an answer tells of every block.
use mathlib.Core.Path.{◌≡◌, refl, sym, ap, ◌∙◌}
use mathlib.Core.Bool.{Bool, true, false, ◌&&◌, not, false≢true}
use mathlib.Core.List.{List, [], ◌∷◌}
use Prim.Native.Nat.{ℕ, zero, suc, ◌+◌, ◌/◌, ◌≤◌, ◌<◌}
use native.Mathlib.Omega.{arith}
use lib.Dec.{eqb, leb, ltb}
use lib.ListN.{length, get_or}
use Rattle.lists.specs.Loops.{pick, first}
use Rattle.sets.specs.declared.Set.{Set}
use Rattle.std.specs.Prelude.{Some, Ok, Err}
use Rattle.sets.specs.Table.{set_of}
use Rattle.scheme.specs.declared.Refusal.TheVariants.{WrongLength, ZeroValues, WrongSecret}
use Rattle.scheme.specs.Sealing.{block_at, fits, first_fitting, sealed_by, secret_message}
use Rattle.scheme.specs.Calls.{SealEnd, zeroed, seal_lengths, after_seal, seal_ends, wrap_ends}
use Rattle.demands.specs.Demands.{HasZero, Chosen, SealChooses, WrapChooses}
use Rattle.tie.proofs.Choices.{lt-true, lt-false}
use Rattle.theory.proofs.Place.{at-or}

-- a search passes over what does not hold
pub first-before : (p : ℕ → Bool) (n i j : ℕ) → i ≤ j → j < first p n i → p j ≡ false
unfolding first
first-before p zero i j h g = absurd (omega arith)
first-before p (suc n) i j h g = step (p i) refl g (first-before p n (suc i) j)
  where
    step : (b : Bool) → p i ≡ b → j < pick b i (first p n (suc i)) → (suc i ≤ j → j < first p n (suc i) → p j ≡ false) → p j ≡ false
    step true y q ih = absurd (omega arith)
    step false z q ih = at-or j i (λ e. rw e z) (λ d. ih (omega arith) q)

-- and ends at what holds
pub first-there : (p : ℕ → Bool) (n i : ℕ) → first p n i < i + n → p (first p n i) ≡ true
unfolding first
first-there p zero i h = absurd (omega arith)
first-there p (suc n) i h = step (p i) refl h (first-there p n (suc i))
  where
    step : (b : Bool) → p i ≡ b → pick b i (first p n (suc i)) < i + suc n → (first p n (suc i) < suc i + n → p (first p n (suc i)) ≡ true)
        → p (pick b i (first p n (suc i))) ≡ true
    step true e h ih = e
    step false e h ih = ih (omega arith)

not-true : (b : Bool) → not b ≡ true → b ≡ true → ⊥
not-true true e q = false≢true e
not-true false e q = false≢true q

not-false : (b : Bool) → not b ≡ false → b ≡ true
not-false true e = refl
not-false false e = sym e

module _ (s : Set) (msg random : List ℕ) where
  abbrev blocks : ℕ
  blocks = length random / s.block

  -- what the answer of an end tells
  abbrev pub Tells : SealEnd → Type 0
  Tells r = Chosen s msg random r.answer

  zero_of : (i : ℕ) → fits s msg (block_at s random i) ≡ false → HasZero s msg random i
  unfolding fits
  zero_of i e = not-false _ e

  none_of : (i : ℕ) → fits s msg (block_at s random i) ≡ true → HasZero s msg random i → ⊥
  unfolding fits
  none_of i e = not-true _ e

  passed : (i : ℕ) → i < first_fitting s msg random → HasZero s msg random i
  unfolding first_fitting
  passed i h = zero_of i (first-before (λ b. fits s msg (block_at s random b)) blocks 0 i (omega arith) h)

  used : first_fitting s msg random < blocks → HasZero s msg random (first_fitting s msg random) → ⊥
  used h = none_of (first_fitting s msg random) (unfold first_fitting in first-there (λ b. fits s msg (block_at s random b)) blocks 0 (let e : 0 + blocks ≡ blocks = omega arith in rw e h))

  pub after-chosen : (key cipher work : List ℕ) → Tells (after_seal s key random msg cipher work)
  unfolding after_seal
  after-chosen key cipher work = go (ltb (first_fitting s msg random) blocks) refl
    where
      go : (t : Bool) → ltb (first_fitting s msg random) blocks ≡ t
          → Tells (pick t (record { answer = Ok (first_fitting s msg random); cipher = sealed_by s key msg random (first_fitting s msg random); work = zeroed work }) (record { answer = Err ZeroValues; cipher = zeroed cipher; work = zeroed work }))
      go true q = let h : first_fitting s msg random < blocks = lt-true _ _ q in (h, used h, passed)
      go false q = λ i h. passed i (omega (arith, lt-false (first_fitting s msg random) blocks q))

module _ (s : Set) (named : set_of s.byte ≡ Some s) where
  names : (key : List ℕ) (byte : ℕ) (k : List ℕ) → byte ∷ k ≡ key → get_or key 0 0 ≡ s.byte → set_of byte ≡ Some s
  names key byte k q e = ap (λ (l : List ℕ). set_of (get_or l 0 0)) q ∙ ap set_of e ∙ named

  -- THEOREM (seal, chooses). Sealing passes over exactly the blocks with a zero error value.
  pub seal-chooses : SealChooses s
  unfolding seal_ends
  seal-chooses key random msg cipher work e = go key refl
    where
      lengths : (t : Bool) (k : List ℕ) → Tells s msg random (pick t (after_seal s k random msg cipher work) (record { answer = Err WrongLength; cipher = cipher; work = work }))
      lengths true k = after-chosen s msg random k cipher work
      lengths false k = tt

      go : (k : List ℕ) → k ≡ key → Tells s msg random (seal_ends k random msg cipher work)
      go [] q = tt
      go (byte ∷ k) q =
          rw (names key byte k q e) (lengths (seal_lengths s (length (byte ∷ k)) (length random) (length cipher) (length work) && eqb (length msg) s.k1) (byte ∷ k))

  -- THEOREM (wrap, chooses). The same of wrapping.
  pub wrap-chooses : WrapChooses s
  unfolding wrap_ends
  wrap-chooses key random secret cipher work e = go key refl
    where
      sized : (t : Bool) (k : List ℕ) → Tells s (secret_message s secret) random (pick t (after_seal s k random (secret_message s secret) cipher work) (record { answer = Err WrongSecret; cipher = cipher; work = work }))
      sized true k = after-chosen s (secret_message s secret) random k cipher work
      sized false k = tt

      lengths : (t u : Bool) (k : List ℕ) → Tells s (secret_message s secret) random (pick t (pick u (after_seal s k random (secret_message s secret) cipher work) (record { answer = Err WrongSecret; cipher = cipher; work = work })) (record { answer = Err WrongLength; cipher = cipher; work = work }))
      lengths true u k = sized u k
      lengths false u k = tt

      go : (k : List ℕ) → k ≡ key → Tells s (secret_message s secret) random (wrap_ends k random secret cipher work)
      go [] q = tt
      go (byte ∷ k) q =
          rw (names key byte k q e) (lengths (seal_lengths s (length (byte ∷ k)) (length random) (length cipher) (length work)) (leb 1 (length secret) && leb (length secret) s.k1) (byte ∷ k))
