-- Good pairs, and what opening finds (RLCE-KEM specification of September 14, 2017, section 6.3).
use Rattle.std.specs.Prelude.{◌≡◌, ℕ, ◌-◌, ◌≤◌, ◌<◌}
use Rattle.theory.specs.Field.{Field}
use Rattle.theory.specs.Word.{IsZero, wt}
use Rattle.theory.specs.Code.{IsCode}
use Rattle.theory.specs.Matrix.{Mat, LeftKer}
use Rattle.pairs.specs.Sizes.{Sizes}
use Rattle.pairs.specs.Key.{Key, undone, redone, Unmixed}
use Rattle.pairs.specs.Encoding.{public, encoded}

-- the code of the set, with the points X
abbrev pub InCode : (K : Field) → Sizes → (X c : ℕ → K.F) → Type 0
InCode K s X c = IsCode K X s.n (s.n - s.k) c

-- the word y lands in the code after the opening's own undoing
abbrev pub Lands : (K : Field) (s : Sizes) → (ℕ → K.F) → Key K → (ℕ → K.F) → Type 0
Lands K s X κ y = InCode K s X (undone K s κ y)

-- W = GE's rows I at columns T - k
abbrev pub W : (K : Field) → ℕ → Mat K → (I T : ℕ → ℕ) → Mat K
W K k ge I T a b = ge (I a) (T b - k)

-- W has only the zero left kernel
abbrev pub Regular : (K : Field) → ℕ → Mat K → ℕ → (I T : ℕ → ℕ) → Type 0
Regular K k ge u I T = (y : ℕ → K.F) → LeftKer K u u (W K k ge I T) y → IsZero K u y

-- every row of [I, GE] lands in the code after the opening's own undoing, and W has an inverse
pub record Good (K : Field) (s : Sizes) (X : ℕ → K.F) (κ : Key K) (u : ℕ) (I T : ℕ → ℕ) : Type 0 where
  pub rows : (i : ℕ) → i < s.k → Lands K s X κ (public K s.k κ.ge i)
  pub regular : Regular K s.k κ.ge u I T

-- the vector x goes with the code word c: read back at the unmixed places below k, and solved for the others by the places T
pub record Vector (K : Field) (s : Sizes) (κ : Key K) (u : ℕ) (T : ℕ → ℕ) (c x : ℕ → K.F) : Type 0 where
  pub reads : (i : ℕ) → i < s.k → Unmixed K s κ i → x i ≡ redone K s κ c (κ.p2 i)
  pub solves : (b : ℕ) → b < u → encoded K s.k κ.ge x (T b) ≡ redone K s κ c (κ.p2 (T b))

-- find the code word within t places, and the vector that goes with it
pub record Finds (K : Field) (s : Sizes) (X : ℕ → K.F) (κ : Key K) (u : ℕ) (T : ℕ → ℕ) (y x : ℕ → K.F) : Type 0 where
  pub code : ℕ → K.F
  pub word : InCode K s X code
  pub near : wt K (λ i. K.add (undone K s κ y i) (code i)) s.n ≤ s.t
  pub vector : Vector K s κ u T code x
