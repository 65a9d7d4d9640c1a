-- The end of opening, from the vector to the message; and opening as a whole.
use Rattle.std.specs.Prelude.{◌≡◌, List, ℕ, ◌+◌, ◌*◌, ◌≤◌, Result, Ok, Err, length}
use Rattle.bits.specs.Numbers.{bytes16}
use Rattle.sets.specs.declared.Set.{Set}
use Rattle.scheme.specs.Padding.{Checks}
use Rattle.scheme.specs.Keys.{Private, WellFormed, read}
use Rattle.scheme.specs.Opening.{error_places, repadded, Opens}
use Rattle.scheme.specs.Opening as Opening
use Rattle.scheme.specs.declared.Refusal.{Refusal}
use Rattle.scheme.specs.declared.Refusal.TheVariants as R
use Rattle.opening.specs.Area.{open_room}
use Rattle.opening.specs.Given.{KeyGiven}
use Rattle.opening.specs.declared.Failure.{Failure}
use Rattle.opening.specs.declared.Failure.TheVariants.{Malformed, Singular, NotOpened}

-- the word of the vector x differs from the received word y in exactly t places, and the check bytes are right
pub record Accepted (s : Set) (κ : Private) (x y : List ℕ) : Type 0 where
  pub exactly : length (error_places s κ x y) ≡ s.t
  pub checks : Checks s (repadded s κ x y) (bytes16 (error_places s κ x y))

-- what a failure says of the key, before a ciphertext is looked at
abbrev pub KeyFails : Set → List ℕ → Failure → Type 0
KeyFails s key Malformed = WellFormed s key → ⊥
KeyFails s key Singular = WellFormed s key × Opening.Singular s (read s key)
KeyFails s key NotOpened = ⊥

-- why nothing is opened
abbrev pub OpenFails : Set → List ℕ → List ℕ → Failure → Type 0
OpenFails s key cipher Malformed = WellFormed s key → ⊥
OpenFails s key cipher Singular = WellFormed s key × Opening.Singular s (read s key)
OpenFails s key cipher NotOpened =
    WellFormed s key × (Opening.Singular s (read s key) → ⊥) × ((l : List ℕ) → Opens s key cipher l → ⊥)

-- what `open` answers, and what the message holds then
abbrev pub OpensAs : Set → List ℕ → List ℕ → Result (Unit {0}) Failure → List ℕ → Type 0
OpensAs s key cipher (Ok done) msg =
    WellFormed s key × (Opening.Singular s (read s key) → ⊥) × Opens s key cipher msg
OpensAs s key cipher (Err failure) msg = OpenFails s key cipher failure

-- the refusal that stands for a failure
abbrev pub refusal_of : Failure → Refusal
refusal_of Malformed = R.Malformed
refusal_of Singular = R.Singular
refusal_of NotOpened = R.NotOpened

-- enough for a call of `open` with a work area of the set's length; `open` itself asks for no more of it than room for `open_room s` numbers, and
-- a `PrivateKey` is known to be what `of_key` says
pub record OpenGiven (s : Set) (key cipher message work : List ℕ) : Type 0 where
  pub of_key : KeyGiven s key
  pub cipher_long : length cipher ≡ s.cipher
  pub message_long : length message ≡ s.k1
  pub work_long : length work ≡ s.work
  -- of the set's numbers, beside those of `Valid`
  pub room : open_room s ≤ s.work
  pub places_fit : 2 * s.t ≤ 1024
  pub padded_fit : s.k1 + s.k2 + s.k3 ≤ 2048
