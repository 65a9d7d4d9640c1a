-- A loop that stores one element a turn, from the place `at` on: what the list holds afterwards.
use mathlib.Core.Path.{◌≡◌, refl, ◌∙◌}
use mathlib.Core.Logic.{◌⊎◌, ⊎_elim}
use mathlib.Core.List.{List}
use Prim.Native.Nat.{ℕ, zero, suc, ◌+◌, ◌≤◌, ◌<◌}
use native.Mathlib.Omega.{arith}
use native.Mathlib.Decide.{ℕ_discrete, dec_lt}
use lib.ListN.{length, get_or, set, length-set}
use lib.Seq.{get_or-set_same, get_or-set_other, set_out}
use Rattle.lists.specs.Loops.{turns}

-- the place j is none of the n from `at` on
abbrev pub Off : ℕ → ℕ → ℕ → Type 0
Off at n j = (j < at) ⊎ (at + n ≤ j)

module _ (at : ℕ) (v : ℕ → List ℕ → ℕ) where
  -- turn i stores v i at the place at + i
  abbrev pub store : ℕ → List ℕ → List ℕ
  store i l = set l (at + i) (v i l)

  pub stores-length : (n : ℕ) (l : List ℕ) → length (turns store n l) ≡ length l
  unfolding turns
  stores-length zero l = refl
  stores-length (suc n) l = length-set (turns store n l) (at + n) (v n (turns store n l)) ∙ stores-length n l

  pub stores-before : (n : ℕ) (l : List ℕ) (j : ℕ) → j < at → get_or (turns store n l) j 0 ≡ get_or l j 0
  unfolding turns
  stores-before zero l j h = refl
  stores-before (suc n) l j h =
      get_or-set_other (turns store n l) (at + n) j (v n (turns store n l)) 0 (λ e. omega arith) ∙ stores-before n l j h

  pub stores-after : (n : ℕ) (l : List ℕ) (j : ℕ) → at + n ≤ j → get_or (turns store n l) j 0 ≡ get_or l j 0
  unfolding turns
  stores-after zero l j h = refl
  stores-after (suc n) l j h =
      get_or-set_other (turns store n l) (at + n) j (v n (turns store n l)) 0 (λ e. omega arith) ∙ stores-after n l j (omega arith)

  pub stores-off : (n : ℕ) (l : List ℕ) (j : ℕ) → Off at n j → get_or (turns store n l) j 0 ≡ get_or l j 0
  stores-off n l j = ⊎_elim (stores-before n l j) (stores-after n l j)

  -- what turn i stored is what stands there in the end
  pub stores_at : (n : ℕ) (l : List ℕ) (i : ℕ) → i < n → at + n ≤ length l → get_or (turns store n l) (at + i) 0 ≡ v i (turns store i l)
  unfolding turns
  stores_at zero l i h fits = absurd (omega arith)
  stores_at (suc n) l i h fits = go (ℕ_discrete i n) (stores_at n l i)
    where
      go : Dec (i ≡ n) → (i < n → at + n ≤ length l → get_or (turns store n l) (at + i) 0 ≡ v i (turns store i l)) → get_or (turns store (suc n) l) (at + i) 0 ≡ v i (turns store i l)
      go (yes e) r = rw e (get_or-set_same (turns store n l) (at + n) (v n (turns store n l)) 0 (rw stores-length (omega arith)))
      go (no d) r =
          get_or-set_other (turns store n l) (at + n) (at + i) (v n (turns store n l)) 0 (λ e. d (omega arith))
          ∙ r (omega arith) (omega arith)

  -- what holds of every element, and then of each that is stored, still holds of every element
  pub stores-all : (P : ℕ → Type 0) → ((i : ℕ) (l : List ℕ) → ((j : ℕ) → P (get_or l j 0)) → P (v i l)) → (n : ℕ) (l : List ℕ) → ((j : ℕ) → P (get_or l j 0)) → (j : ℕ) → P (get_or (turns store n l) j 0)
  unfolding turns
  stores-all P keeps zero l h j = h j
  stores-all P keeps (suc n) l h j = go (turns store n l) (stores-all P keeps n l h) (ℕ_discrete j (at + n))
    where
      past : (s : List ℕ) → ((j : ℕ) → P (get_or s j 0)) → P (get_or (set s (at + n) (v n s)) (at + n) 0)
      past s q = here (dec_lt (at + n) (length s))
        where
          here : Dec (at + n < length s) → P (get_or (set s (at + n) (v n s)) (at + n) 0)
          here (yes l) = rw (get_or-set_same s (at + n) (v n s) 0 l) (keeps n s q)
          here (no g) = rw (set_out s (at + n) (v n s) (omega arith)) (q (at + n))

      go : (s : List ℕ) → ((j : ℕ) → P (get_or s j 0)) → Dec (j ≡ at + n) → P (get_or (set s (at + n) (v n s)) j 0)
      go s q (yes e) = rw e (past s q)
      go s q (no d) = rw (get_or-set_other s (at + n) j (v n s) 0 d) (q j)
