-- What sealing answers, and what it leaves in the ciphertext.
use Rattle.std.specs.Prelude.{◌≡◌, List, ℕ, ◌+◌, ◌/◌, ◌<◌, Option, Some, None, length, get_or, take, drop}
use Rattle.bits.specs.Bits.{packed, Small}
use Rattle.sets.specs.declared.Set.{Set}
use Rattle.scheme.specs.Keys.{public_ge}
use Rattle.scheme.specs.Sealing.{sent, block_at, first_fitting, sealed_by}
use Rattle.sealing.specs.Steps.{Rising, Drawn}

-- the search for a block: the first that fits, with what it gives in its rooms, or none fits
abbrev pub Finds : Set → List ℕ → List ℕ → Option ℕ → List ℕ → List ℕ → Type 0
Finds s random msg (Some b) places elements =
    (b ≡ first_fitting s msg random) × (b < length random / s.block) × Drawn s msg (block_at s random b) places elements
Finds s random msg None places elements = first_fitting s msg random ≡ length random / s.block

-- the rooms are ready for a word: the places rise and are places, and the elements are elements
pub record Ready (s : Set) (places elements : List ℕ) : Type 0 where
  pub rising : Rising (take s.t places)
  pub placed : (i : ℕ) → i < s.t → get_or (take s.t places) i 0 < s.n + s.w
  pub small : Small s.m elements

-- the ciphertext of the vector and the values at the places
abbrev pub sent_by : Set → List ℕ → List ℕ → List ℕ → List ℕ
sent_by s key places elements = packed s.m (sent s (public_ge s key) (take s.k elements) (take s.t places) (drop s.k elements))

-- the answer is the number of the first block that fits, counted from 0; with it the ciphertext that this block gives. Where no block fits, the ciphertext is left to
-- the caller, who wipes it
abbrev pub Seals : Set → List ℕ → List ℕ → List ℕ → Option ℕ → List ℕ → Type 0
Seals s key random msg (Some b) after =
    (b ≡ first_fitting s msg random) × (b < length random / s.block) × (after ≡ sealed_by s key msg random b)
Seals s key random msg None after = first_fitting s msg random ≡ length random / s.block
