-- What each call promises, for all inputs: its answer, and what every lent buffer holds afterwards.
use Rattle.std.specs.Prelude.{◌≡◌, Bool, true, false, ◌&&◌, List, [], ◌∷◌, ℕ, ◌/◌, ◌%◌, eqb, leb, ltb, length, take, replicate, Option, Some, None, Ok, Err}
use Rattle.lists.specs.Loops.{pick}
use Rattle.sets.specs.declared.Set.{Set}
use Rattle.sets.specs.Table.{set_of}
use Rattle.scheme.specs.declared.Refusal.{Refusal}
use Rattle.scheme.specs.declared.Refusal.TheVariants.{UnknownSet, WrongLength, Malformed, Singular as SingularW, ZeroValues, NotOpened, WrongSecret, FewMultipliers, FewElements, NoWindow, Dependent}
use Rattle.scheme.specs.Answers.{Answer, Opened}
use Rattle.scheme.specs.Keys.{WellFormed, read}
use Rattle.scheme.specs.Setup.{Made, made, fails, setup}
use Rattle.scheme.specs.Sealing.{first_fitting, sealed_by, secret_message}
use Rattle.scheme.specs.Opening.{Singular, Opens}

-- a buffer full of zeros
abbrev pub zeroed : List ℕ → List ℕ
zeroed l = replicate (length l) 0

-- ---- setup

-- the answer, and what the public key, the private key and the work area hold
pub record SetupEnd : Type 0 where
  pub answer : Answer
  pub public : List ℕ
  pub private : List ℕ
  pub work : List ℕ

abbrev pub after_setup : Made → List ℕ → List ℕ → List ℕ → SetupEnd
after_setup (made p q count) public private work = record { answer = Ok count; public = p; private = q; work = zeroed work }
after_setup (fails e) public private work = record { answer = Err e; public = zeroed public; private = zeroed private; work = zeroed work }

-- the lengths of the random bytes, of both keys and of the work area
abbrev pub setup_lengths : Set → ℕ → ℕ → ℕ → ℕ → Bool
setup_lengths s random public private work =
    eqb random s.random && (eqb public s.public && (eqb private s.private && eqb work s.work))

abbrev pub setup_of : Option Set → List ℕ → List ℕ → List ℕ → List ℕ → SetupEnd
setup_of None random public private work = record { answer = Err UnknownSet; public = public; private = private; work = work }
setup_of (Some s) random public private work =
    pick (setup_lengths s (length random) (length public) (length private) (length work)) (after_setup (setup s random) public private work)
    (record { answer = Err WrongLength; public = public; private = private; work = work })

-- the set byte, the random bytes, and the three buffers as they are lent
unfoldable pub setup_ends : ℕ → List ℕ → List ℕ → List ℕ → List ℕ → SetupEnd
setup_ends byte random public private work = setup_of (set_of byte) random public private work

-- ---- sealing and wrapping

pub record SealEnd : Type 0 where
  pub answer : Answer
  pub cipher : List ℕ
  pub work : List ℕ

-- B blocks of k3 + 2t bytes, B from 1 to 16; the lengths of the key, the random bytes, the ciphertext and the work area
abbrev pub seal_lengths : Set → ℕ → ℕ → ℕ → ℕ → Bool
seal_lengths s key random cipher work =
    eqb key s.public && (eqb (random % s.block) 0 && (leb 1 (random / s.block) && (leb (random / s.block) 16 && (eqb cipher s.cipher && eqb work s.work))))

-- past the first checks
unfoldable pub after_seal : Set → List ℕ → List ℕ → List ℕ → List ℕ → List ℕ → SealEnd
after_seal s key random msg cipher work =
    let b = first_fitting s msg random in
    pick (ltb b (length random / s.block)) (record { answer = Ok b; cipher = sealed_by s key msg random b; work = zeroed work })
    (record { answer = Err ZeroValues; cipher = zeroed cipher; work = zeroed work })

-- Order: an empty key (2), set byte (1), other lengths (2)
abbrev pub seal_of : Option Set → List ℕ → List ℕ → List ℕ → List ℕ → List ℕ → SealEnd
seal_of None key random msg cipher work = record { answer = Err UnknownSet; cipher = cipher; work = work }
seal_of (Some s) key random msg cipher work =
    pick (seal_lengths s (length key) (length random) (length cipher) (length work) && eqb (length msg) s.k1) (after_seal s key random msg cipher work)
    (record { answer = Err WrongLength; cipher = cipher; work = work })

unfoldable pub seal_ends : List ℕ → List ℕ → List ℕ → List ℕ → List ℕ → SealEnd
seal_ends [] random msg cipher work = record { answer = Err WrongLength; cipher = cipher; work = work }
seal_ends (byte ∷ key) random msg cipher work = seal_of (set_of byte) (byte ∷ key) random msg cipher work

-- then secret length (11)
abbrev pub wrap_of : Option Set → List ℕ → List ℕ → List ℕ → List ℕ → List ℕ → SealEnd
wrap_of None key random secret cipher work = record { answer = Err UnknownSet; cipher = cipher; work = work }
wrap_of (Some s) key random secret cipher work =
    pick (seal_lengths s (length key) (length random) (length cipher) (length work))
    (pick (leb 1 (length secret) && leb (length secret) s.k1) (after_seal s key random (secret_message s secret) cipher work)
    (record { answer = Err WrongSecret; cipher = cipher; work = work }))
    (record { answer = Err WrongLength; cipher = cipher; work = work })

unfoldable pub wrap_ends : List ℕ → List ℕ → List ℕ → List ℕ → List ℕ → SealEnd
wrap_ends [] random secret cipher work = record { answer = Err WrongLength; cipher = cipher; work = work }
wrap_ends (byte ∷ key) random secret cipher work = wrap_of (set_of byte) (byte ∷ key) random secret cipher work

-- ---- opening and unwrapping

-- past the first checks: when each refusal comes, where `Gives` says what is written if there is none
abbrev pub OpenRefuses : Set → List ℕ → (List ℕ → Type 0) → Refusal → Type 0
OpenRefuses s key Gives Malformed = WellFormed s key → ⊥
OpenRefuses s key Gives SingularW = WellFormed s key × Singular s (read s key)
OpenRefuses s key Gives NotOpened =
    WellFormed s key × (Singular s (read s key) → ⊥) × ((l : List ℕ) → Gives l → ⊥)
OpenRefuses s key Gives UnknownSet = ⊥
OpenRefuses s key Gives WrongLength = ⊥
OpenRefuses s key Gives FewMultipliers = ⊥
OpenRefuses s key Gives FewElements = ⊥
OpenRefuses s key Gives NoWindow = ⊥
OpenRefuses s key Gives Dependent = ⊥
OpenRefuses s key Gives ZeroValues = ⊥
OpenRefuses s key Gives WrongSecret = ⊥

-- what holds of each answer, and of the output afterwards
abbrev pub OpenCase : Set → List ℕ → (List ℕ → Type 0) → List ℕ → Opened → List ℕ → Type 0
OpenCase s key Gives before (Ok _) after =
    WellFormed s key × (Singular s (read s key) → ⊥) × Gives after
OpenCase s key Gives before (Err e) after = OpenRefuses s key Gives e × (after ≡ zeroed before)

-- the lengths of the key, the ciphertext and the work area
abbrev pub open_lengths : Set → ℕ → ℕ → ℕ → Bool
open_lengths s key cipher work = eqb key s.private && (eqb cipher s.cipher && eqb work s.work)

-- a first check refuses, and nothing is written
pub record Untouched (e : Refusal) (out work : List ℕ) (answer : Opened) (out' work' : List ℕ) : Type 0 where
  pub answers : answer ≡ Err e
  pub same_out : out' ≡ out
  pub same_work : work' ≡ work

-- past the first checks: the case of the answer, and the work area is zero
pub record Opening (s : Set) (key cipher : List ℕ) (Gives : List ℕ → Type 0) (out work : List ℕ) (answer : Opened) (out' work' : List ℕ) : Type 0 where
  pub case : OpenCase s key Gives out answer out'
  pub wiped : work' ≡ zeroed work

-- on the outcome of the length tests
abbrev pub OpenChecked : Bool → Set → List ℕ → List ℕ → List ℕ → List ℕ → Opened → List ℕ → List ℕ → Type 0
OpenChecked true s key cipher out work answer out' work' = Opening s key cipher (Opens s key cipher) out work answer out' work'
OpenChecked false s key cipher out work answer out' work' = Untouched WrongLength out work answer out' work'

abbrev pub OpenOf : Option Set → List ℕ → List ℕ → List ℕ → List ℕ → Opened → List ℕ → List ℕ → Type 0
OpenOf None key cipher out work answer out' work' = Untouched UnknownSet out work answer out' work'
OpenOf (Some s) key cipher out work answer out' work' =
    OpenChecked (open_lengths s (length key) (length cipher) (length work) && eqb (length out) s.k1) s key cipher out work answer out' work'

-- the key, the ciphertext, the message and the work area as they are lent; the answer; message and work area afterwards
abbrev pub OpenEnds : List ℕ → List ℕ → List ℕ → List ℕ → Opened → List ℕ → List ℕ → Type 0
OpenEnds [] cipher out work answer out' work' = Untouched WrongLength out work answer out' work'
OpenEnds (byte ∷ key) cipher out work answer out' work' = OpenOf (set_of byte) (byte ∷ key) cipher out work answer out' work'

-- section 6.4: Unwrapping returns the first bytes and ignores the rest
abbrev pub GivesSecret : Set → List ℕ → List ℕ → ℕ → List ℕ → Type 0
GivesSecret s key cipher len l = (msg : List ℕ) × Opens s key cipher msg × (l ≡ take len msg)

abbrev pub UnwrapSized : Bool → Set → List ℕ → List ℕ → List ℕ → List ℕ → Opened → List ℕ → List ℕ → Type 0
UnwrapSized true s key cipher out work answer out' work' =
    Opening s key cipher (GivesSecret s key cipher (length out)) out work answer out' work'
UnwrapSized false s key cipher out work answer out' work' = Untouched WrongSecret out work answer out' work'

abbrev pub UnwrapChecked : Bool → Set → List ℕ → List ℕ → List ℕ → List ℕ → Opened → List ℕ → List ℕ → Type 0
UnwrapChecked true s key cipher out work answer out' work' =
    UnwrapSized (leb 1 (length out) && leb (length out) s.k1) s key cipher out work answer out' work'
UnwrapChecked false s key cipher out work answer out' work' = Untouched WrongLength out work answer out' work'

abbrev pub UnwrapOf : Option Set → List ℕ → List ℕ → List ℕ → List ℕ → Opened → List ℕ → List ℕ → Type 0
UnwrapOf None key cipher out work answer out' work' = Untouched UnknownSet out work answer out' work'
UnwrapOf (Some s) key cipher out work answer out' work' =
    UnwrapChecked (open_lengths s (length key) (length cipher) (length work)) s key cipher out work answer out' work'

abbrev pub UnwrapEnds : List ℕ → List ℕ → List ℕ → List ℕ → Opened → List ℕ → List ℕ → Type 0
UnwrapEnds [] cipher out work answer out' work' = Untouched WrongLength out work answer out' work'
UnwrapEnds (byte ∷ key) cipher out work answer out' work' = UnwrapOf (set_of byte) (byte ∷ key) cipher out work answer out' work'
