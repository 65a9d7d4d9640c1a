-- Key setup, sealing and opening give exactly what the scheme's definitions give, past the first checks. The right sides are the definitions of the
-- scheme (crate `scheme`: Setup, Sealing, Opening); said of what each call promises, for every set of the table.
use Rattle.std.specs.Prelude.{◌≡◌, List, ◌∷◌, ℕ, ◌/◌, ◌%◌, ◌≤◌, ◌<◌, length, Some, Ok, Err}
use Rattle.sets.specs.declared.Set.{Set}
use Rattle.sets.specs.Table.{set_of}
use Rattle.scheme.specs.declared.Refusal.{Refusal}
use Rattle.scheme.specs.declared.Refusal.TheVariants.{ZeroValues}
use Rattle.scheme.specs.Answers.{Opened}
use Rattle.scheme.specs.Setup.{made, fails, setup}
use Rattle.scheme.specs.Sealing.{first_fitting, sealed_by, secret_message}
use Rattle.scheme.specs.Opening.{Opens}
use Rattle.scheme.specs.Calls.{zeroed, setup_ends, seal_ends, wrap_ends, OpenCase, OpenEnds, GivesSecret, UnwrapEnds}

-- the lengths that setup takes
pub record SetupLent (s : Set) (random public private work : List ℕ) : Type 0 where
  pub random_long : length random ≡ s.random
  pub public_long : length public ≡ s.public
  pub private_long : length private ≡ s.private
  pub work_long : length work ≡ s.work

-- the lengths that sealing and wrapping take: B blocks of k3 + 2t bytes, B from 1 to 16
pub record SealLent (s : Set) (key random cipher work : List ℕ) : Type 0 where
  pub key_long : length key ≡ s.public
  pub whole : length random % s.block ≡ 0
  pub some : 1 ≤ length random / s.block
  pub few : length random / s.block ≤ 16
  pub cipher_long : length cipher ≡ s.cipher
  pub work_long : length work ≡ s.work

-- the lengths that opening and unwrapping take
pub record OpenLent (s : Set) (key cipher work : List ℕ) : Type 0 where
  pub key_long : length key ≡ s.private
  pub cipher_long : length cipher ≡ s.cipher
  pub work_long : length work ≡ s.work

pub record Demand2 (s : Set) : Type 0 where
  -- the pair that the definitions give, and its count; or the refusal that they give
  pub setup_made : (byte : ℕ) → set_of byte ≡ Some s → (random public private work : List ℕ) → SetupLent s random public private work
      → (p q : List ℕ) (count : ℕ) → setup s random ≡ made p q count
      → setup_ends byte random public private work ≡ record { answer = Ok count; public = p; private = q; work = zeroed work }
  pub setup_fails : (byte : ℕ) → set_of byte ≡ Some s → (random public private work : List ℕ) → SetupLent s random public private work
      → (e : Refusal) → setup s random ≡ fails e
      → setup_ends byte random public private work ≡ record { answer = Err e; public = zeroed public; private = zeroed private; work = zeroed work }
  -- the ciphertext of the first block that fits, and its number; or 9
  pub seal_by : (byte : ℕ) → set_of byte ≡ Some s → (key random msg cipher work : List ℕ) → SealLent s (byte ∷ key) random cipher work → length msg ≡ s.k1
      → first_fitting s msg random < length random / s.block
      → seal_ends (byte ∷ key) random msg cipher work
      ≡ record { answer = Ok (first_fitting s msg random); cipher = sealed_by s (byte ∷ key) msg random (first_fitting s msg random); work = zeroed work }
  pub seal_nowhere : (byte : ℕ) → set_of byte ≡ Some s → (key random msg cipher work : List ℕ) → SealLent s (byte ∷ key) random cipher work → length msg ≡ s.k1
      → length random / s.block ≤ first_fitting s msg random
      → seal_ends (byte ∷ key) random msg cipher work ≡ record { answer = Err ZeroValues; cipher = zeroed cipher; work = zeroed work }
  -- wrapping seals the secret, then zeros
  pub wrap_seals : (byte : ℕ) → set_of byte ≡ Some s → (key random secret cipher work : List ℕ) → SealLent s (byte ∷ key) random cipher work
      → 1 ≤ length secret → length secret ≤ s.k1
      → wrap_ends (byte ∷ key) random secret cipher work ≡ seal_ends (byte ∷ key) random (secret_message s secret) cipher work
  -- opening: 7 exactly for a malformed key, 8 exactly for a singular one, else 0 with the message that the ciphertext opens to, or 10 if it opens to none
  pub open_case : (byte : ℕ) → set_of byte ≡ Some s → (key cipher out work : List ℕ) → OpenLent s (byte ∷ key) cipher work → length out ≡ s.k1
      → (answer : Opened) (out' work' : List ℕ) → OpenEnds (byte ∷ key) cipher out work answer out' work'
      → OpenCase s (byte ∷ key) (Opens s (byte ∷ key) cipher) out answer out'
  -- unwrapping gives the first bytes of that message
  pub unwrap_case : (byte : ℕ) → set_of byte ≡ Some s → (key cipher out work : List ℕ) → OpenLent s (byte ∷ key) cipher work → 1 ≤ length out → length out ≤ s.k1
      → (answer : Opened) (out' work' : List ℕ) → UnwrapEnds (byte ∷ key) cipher out work answer out' work'
      → OpenCase s (byte ∷ key) (GivesSecret s (byte ∷ key) cipher (length out)) out answer out'
