-- How far elimination has come: what the code keeps from column to column, and what its end means: the echelon format of the RLCE-KEM specification of September 14, 2017, section 6.1.2.
use Rattle.std.specs.Prelude.{◌≡◌, ◌≢◌, List, ℕ, ◌<◌, ◌≤◌}
use Rattle.lists.specs.Loops.{turns}
use Rattle.gf.specs.Field.{Modulus}
use Rattle.linear.specs.Matrix.{Matrix, entry}
use Rattle.linear.specs.Elimination.{Work, clear_next}

-- row c is zero before column c
abbrev pub Lead : ℕ → ℕ → List ℕ → Type 0
Lead cols c l = (j : ℕ) → j < c → entry cols l c j ≡ 0

-- c is none of the rows from `from` up to `to`
pub record Spared (c from to : ℕ) : Type 0 where
  pub other : (i : ℕ) → from ≤ i → i < to → i ≡ c → ⊥

-- column c of the rows from `from` up to `to` was cleared, from the list l after `ops` row operations to the list l' after k: if the rows
-- before `from` were cleared there, those before `to` are here
pub record Cleared (F : Modulus) (cols c from to : ℕ) (l : List ℕ) (ops : ℕ) (l' : List ℕ) (k : ℕ) : Type 0 where
  pub turn : (w : Work) → ◌≡◌ {A = Work} (record { mat = l; ops = ops }) (turns (clear_next F cols c) from w) → ◌≡◌ {A = Work} (record { mat = l'; ops = k }) (turns (clear_next F cols c) to w)
  pub few : k ≤ to
  pub lead : Lead cols c l'

-- the first c columns are those of the identity matrix: at c = k the echelon format [I, GE] of section 6.1.2
pub record Reduced (F : Modulus) (rows cols c : ℕ) (l : List ℕ) : Type 0 where
  pub matrix : Matrix F rows cols l
  pub one_at : (j : ℕ) → j < c → entry cols l j j ≡ 1
  pub zero_off : (i j : ℕ) → i < rows → j < c → i ≢ j → entry cols l i j ≡ 0
