-- What `passing` lists are all the numbers that pass, rising.
use mathlib.Core.Path.{◌≡◌, refl, sym, ◌∙◌}
use mathlib.Core.Bool.{Bool, true, false, false≢true}
use mathlib.Core.List.{[], ◌∷◌, ◌++◌, append-nil}
use Prim.Native.Nat.{ℕ, zero, suc, ◌+◌, ◌≤◌, ◌<◌}
use native.Mathlib.Omega.{arith}
use native.Mathlib.Nat.{add-suc}
use native.Mathlib.Nat.{add-zero as +-zero}
use native.Mathlib.Numerals.{add-one}
use lib.Seq.{get_or-append_seam}
use lib.ListN.{length, get_or, length-append, get_or-append}
use Rattle.lists.specs.Loops.{pick}
use Rattle.pairs.specs.Places.{Listed}
use Rattle.pairs.proofs.Listing.{listed-none, listed-skip, listed_more}
use Rattle.scheme.specs.Lists.{passing}

-- tests that agree list the same numbers
pub passing-ext : (p q : ℕ → Bool) (i n : ℕ) → ((j : ℕ) → i ≤ j → j < i + n → p j ≡ q j) → passing p i n ≡ passing q i n
unfolding passing
passing-ext p q i zero e = refl
passing-ext p q i (suc n) e = rw (passing-ext p q i n (λ j a b. e j a (omega arith)), e (i + n) (omega arith) (omega arith))

module _ (p : ℕ → Bool) (i : ℕ) where
  pub passing-listed : (n : ℕ) → Listed (λ j. p j ≡ true) i (i + n) (length (passing p i n)) (λ a. get_or (passing p i n) a 0)
  unfolding passing
  passing-listed zero = rw (+-zero i) (listed-none (λ j. p j ≡ true) i _)
  passing-listed (suc n) = rw (add-suc i n) (go (p (i + n)) refl (passing-listed n))
    where
      go : (b : Bool) → p (i + n) ≡ b → Listed (λ j. p j ≡ true) i (i + n) (length (passing p i n)) (λ a. get_or (passing p i n) a 0)
          → Listed (λ j. p j ≡ true) i (suc (i + n)) (length (passing p i n ++ pick b ((i + n) ∷ []) [])) (λ a. get_or (passing p i n ++ pick b ((i + n) ∷ []) []) a 0)
      go true e L =
          rw (length-append, add-one)
          (listed_more (λ j. p j ≡ true) i (i + n) (length (passing p i n)) _ _ (omega arith) e L (λ a h. get_or-append (passing p i n) ((i + n) ∷ []) 0 a h) (get_or-append_seam (passing p i n) (i + n) [] 0))
      go false e L =
          rw append-nil (listed-skip (λ j. p j ≡ true) i (i + n) _ _ (λ h. false≢true (sym e ∙ h)) L)
