-- The test of a permutation, window by window: places that all still stand in the slots of their entries have different entries.
use mathlib.Core.Path.{◌≡◌, refl, sym, ◌∙◌, ap}
use mathlib.Core.Bool.{Bool, true, false}
use mathlib.Core.List.{List}
use Prim.Native.Nat.{ℕ, ◌*◌, ◌/◌, ◌%◌, ◌≤◌, ◌<◌}
use native.Mathlib.Decide.{ℕ_discrete}
use native.Mathlib.Omega.{arith}
use borrow.Author.Tests.{eq-eqb, ne_eqb}
use lib.ListN.{length, get_or}
use Rattle.bits.specs.Bits.{Decided}
use Rattle.perm.specs.Perm.{Places, Perm}
use Rattle.perm.specs.Window.{slot_of, written, Kept, Once}
use Rattle.perm.proofs.Placing.{placed, Last, last-placed}
use Rattle.perm.proofs.Inverting.{distinct-perm}

-- ---- slots
pub slot-in : (b v : ℕ) → v / 4096 ≡ b → slot_of b v ≡ v % 4096
slot-in b v e = rw (eq-eqb (v / 4096) b e)

pub slot-out : (b v : ℕ) → (v / 4096 ≡ b → ⊥) → slot_of b v ≡ 4096
slot-out b v n = rw (ne_eqb (v / 4096) b n)

slot-le : (b v : ℕ) → slot_of b v < 4097
slot-le b v = go (ℕ_discrete (v / 4096) b)
  where
    go : Dec (v / 4096 ≡ b) → slot_of b v < 4097
    go (yes e) = rw (slot-in b v e) (omega arith)
    go (no n) = rw (slot-out b v n) (omega arith)

slot-window : (b v : ℕ) → slot_of b v < 4096 → v / 4096 ≡ b
slot-window b v h = go (ℕ_discrete (v / 4096) b)
  where
    go : Dec (v / 4096 ≡ b) → v / 4096 ≡ b
    go (yes e) = e
    go (no n) = absurd (let z : slot_of b v ≡ 4096 = slot-out b v n in omega arith)

-- two values of the window in one slot are the same
slot-one : (b v w : ℕ) → slot_of b v < 4096 → slot_of b w ≡ slot_of b v → w ≡ v
slot-one b v w h e =
    let x : v / 4096 ≡ b = slot-window b v h in
    let y : w / 4096 ≡ b = slot-window b w (rw e h) in
    let z : w % 4096 ≡ v % 4096 = sym (slot-in b w y) ∙ e ∙ slot-in b v x in
    omega arith

-- ---- one window
pub kept-once : (b : ℕ) (p q : List ℕ) → Kept b p q → Once b p
kept-once b p q k i j hi hj w e =
    let l : slot_of b (get_or p i 0) < 4096 = rw (slot-in b (get_or p i 0) w) (omega arith) in
    sym (k i hi l) ∙ ap (λ (v : ℕ). get_or q (slot_of b v) 0) e ∙ k j hj (rw (← e) l)

pub once-kept : (b : ℕ) (p q : List ℕ) → length q ≡ 4097 → Once b p → Kept b p (written b p q)
unfolding written
once-kept b p q l one i h g =
    let s : ℕ → ℕ = λ k. slot_of b (get_or p k 0) in
    let v : Last s (placed s q (length p)) (length p) i = last-placed s q (length p) (λ k _. rw l (slot-le b (get_or p k 0))) i h in
    let j : ℕ = get_or (placed s q (length p)) (s i) 0 in
    let e : get_or p j 0 ≡ get_or p i 0 = slot-one b (get_or p i 0) (get_or p j 0) g v.same in
    one j i v.below h (rw e (slot-window b (get_or p i 0) g)) e

pub once_decided : (b : ℕ) (p q : List ℕ) → length q ≡ 4097 → (r : Bool) (q' : List ℕ) → q' ≡ written b p q → Decided r (Kept b p q') → Decided r (Once b p)
once_decided b p q l true q' e d = kept-once b p q' d
once_decided b p q l false q' e d = λ one. d (rw e (once-kept b p q l one))

-- ---- all windows
pub once_perm : (p : List ℕ) → Places p → (n : ℕ) → length p ≤ 4096 * n → ((b : ℕ) → b < n → Once b p) → Perm p
once_perm p low n h one =
    distinct-perm p low
    λ i j hi hj e. one (get_or p i 0 / 4096) (omega (arith, low i hi)) i j hi hj refl e
