-- What is promised of key pairs, over the definitions of the scheme.
-- All is about byte strings: keys, messages, ciphertexts.
use Rattle.std.specs.Prelude.{◌≡◌, true, false, List, ℕ, ◌+◌, ◌-◌, ◌*◌, ◌/◌, ◌<◌, eqb, ltb, length, get_or, Some, Ok, Err}
use Rattle.lists.specs.Loops.{pick, tab}
use Rattle.bits.specs.Bits.{Small}
use Rattle.sets.specs.declared.Set.{Set}
use Rattle.sets.specs.Table.{set_of}
use Rattle.code.specs.Words.{CodeWord}
use Rattle.scheme.specs.Lists.{has}
use Rattle.scheme.specs.Field.{field_of}
use Rattle.scheme.specs.Padding.{lost_bits, cleared}
use Rattle.scheme.specs.Keys.{WellFormed, public_ge, read}
use Rattle.scheme.specs.Setup.{made, setup}
use Rattle.scheme.specs.Sealing.{error_values, ciphertext, block_at, block_seed, block_places, secret_message}
use Rattle.scheme.specs.Opening.{undone, Singular, Opens}
use Rattle.scheme.specs.declared.Refusal.{Refusal}
use Rattle.scheme.specs.declared.Refusal.TheVariants.{UnknownSet, WrongLength, FewMultipliers, FewElements, NoWindow, Dependent, Malformed, Singular as Singular8, ZeroValues, NotOpened, WrongSecret}
use Rattle.scheme.specs.Answers.{Answer, Opened}
use Rattle.scheme.specs.Calls.{zeroed, setup_ends, seal_ends, wrap_ends, OpenEnds, UnwrapEnds}

-- ---- what is sealed

-- a message, a pad seed with its forced bits zero, and t places, rising; none of its error values is zero
pub record Triple (s : Set) (msg seed places : List ℕ) : Type 0 where
  pub msg_long : length msg ≡ s.k1
  pub msg_bytes : Small 8 msg
  pub seed_long : length seed ≡ s.k3
  pub seed_bytes : Small 8 seed
  pub forced : cleared (lost_bits s) seed ≡ seed
  pub count : length places ≡ s.t
  pub rising : (i j : ℕ) → i < j → j < s.t → get_or places i 0 < get_or places j 0
  pub below : (i : ℕ) → i < s.t → get_or places i 0 < s.n + s.w
  pub values : has (error_values s msg seed places) 0 ≡ false

-- the byte string is the ciphertext of some triple with this message
pub record Sealed (s : Set) (public cipher msg : List ℕ) : Type 0 where
  pub seed : List ℕ
  pub places : List ℕ
  pub triple : Triple s msg seed places
  pub is : ciphertext s (public_ge s public) msg seed places ≡ cipher

-- ---- pairs

-- a pair that setup makes of some random bytes
pub record Ours (s : Set) (public private : List ℕ) : Type 0 where
  pub random : List ℕ
  pub long : length random ≡ s.random
  pub bytes : Small 8 random
  pub count : ℕ
  pub is : setup s random ≡ made public private count

-- row i of [I, GE]
unfoldable pub public_row : Set → List ℕ → ℕ → List ℕ
public_row s ge i =
    tab (s.n + s.w) (λ j. pick (ltb j s.k) (pick (eqb j i) 1 0) (get_or ge (i * (s.n + s.w - s.k) + (j - s.k)) 0))

-- both read well, carry the same set byte and GE, every row of [I, GE] lands in the code after the opening's own
-- undoing, and W has an inverse
pub record GoodPair (s : Set) (public private : List ℕ) : Type 0 where
  pub public_long : length public ≡ s.public
  pub private_long : length private ≡ s.private
  pub public_byte : get_or public 0 0 ≡ s.byte
  pub private_byte : get_or private 0 0 ≡ s.byte
  pub well_formed : WellFormed s private
  pub same : public_ge s public ≡ (read s private).ge
  pub rows : (i : ℕ) → i < s.k → CodeWord (field_of s) s.n (s.n - s.k) (undone s (read s private) (public_row s (public_ge s public) i))
  pub regular : Singular s (read s private) → ⊥

-- ---- what is promised

-- no two triples give one ciphertext
abbrev pub Once : Set → List ℕ → Type 0
Once s public =
    (msg seed places msg' seed' places' : List ℕ) → Triple s msg seed places → Triple s msg' seed' places'
    → ciphertext s (public_ge s public) msg seed places ≡ ciphertext s (public_ge s public) msg' seed' places'
    → (msg ≡ msg') × (seed ≡ seed') × (places ≡ places')

-- a byte string of the ciphertext's length opens to a message exactly when it is the ciphertext of a triple with that message
pub record OpensExactly (s : Set) (public private : List ℕ) : Type 0 where
  pub opens : (cipher msg : List ℕ) → Sealed s public cipher msg → Opens s private cipher msg
  pub only : (cipher msg : List ℕ) → length cipher ≡ s.cipher → Small 8 cipher → Opens s private cipher msg → Sealed s public cipher msg

-- opening gives at most one message, with every key that is neither malformed (7) nor singular (8)
abbrev pub AtMostOne : Set → Type 0
AtMostOne s =
    (key cipher a b : List ℕ) → length key ≡ s.private → WellFormed s key → (Singular s (read s key) → ⊥)
    → Opens s key cipher a → Opens s key cipher b → a ≡ b

-- for every good pair: what is promised of it
pub record Promised (s : Set) (public private : List ℕ) : Type 0 where
  pub once : Once s public
  pub exactly : OpensExactly s public private

-- every pair of setup is good; so its private key is never refused (7, 8), and the same is promised of it
abbrev pub SetupGood : Set → Type 0
SetupGood s = (public private : List ℕ) → Ours s public private → GoodPair s public private

abbrev pub GoodPromised : Set → Type 0
GoodPromised s = (public private : List ℕ) → GoodPair s public private → Promised s public private

abbrev pub Demand3 : Set → Type 0
Demand3 s = (public private : List ℕ) → Ours s public private → Promised s public private

-- ---- what the calls promise together (crate `scheme`, Calls: what each call leaves)

-- of a byte string, under a public key: 0 and the message of the triple whose ciphertext it is; 10 and zeros where it is that of none
pub data Answered (s : Set) (public cipher before : List ℕ) : Opened → List ℕ → Type 0 where
  opened : {msg : List ℕ} → Sealed s public cipher msg → Answered s public cipher before (Ok tt) msg
  refused : ((msg : List ℕ) → Sealed s public cipher msg → ⊥) → Answered s public cipher before (Err NotOpened) (zeroed before)

-- opening with our private key answers just that, for every byte string of the ciphertext's length
abbrev pub OpenAnswers : Set → Type 0
OpenAnswers s =
    (public private : List ℕ) → Ours s public private → (cipher out work out' work' : List ℕ) (answer : Opened)
    → length cipher ≡ s.cipher → Small 8 cipher → length out ≡ s.k1 → length work ≡ s.work
    → OpenEnds private cipher out work answer out' work' → Answered s public cipher out answer out'

-- what is sealed with our public key opens with our private key, to the message that was sealed
abbrev pub SealOpens : Set → Type 0
SealOpens s =
    (public private : List ℕ) → Ours s public private
    → (random msg cipher work : List ℕ) (b : ℕ) → Small 8 random → Small 8 msg → (seal_ends public random msg cipher work).answer ≡ Ok b
    → (out work₁ out' work' : List ℕ) (answer : Opened) → length out ≡ s.k1 → length work₁ ≡ s.work
    → OpenEnds private (seal_ends public random msg cipher work).cipher out work₁ answer out' work'
    → (answer ≡ Ok tt) × (out' ≡ msg)

-- the same of the KEM pair: what is wrapped unwraps to the secret, told its length
abbrev pub WrapOpens : Set → Type 0
WrapOpens s =
    (public private : List ℕ) → Ours s public private
    → (random secret cipher work : List ℕ) (b : ℕ) → Small 8 random → Small 8 secret → (wrap_ends public random secret cipher work).answer ≡ Ok b
    → (out work₁ out' work' : List ℕ) (answer : Opened) → length out ≡ length secret → length work₁ ≡ s.work
    → UnwrapEnds private (wrap_ends public random secret cipher work).cipher out work₁ answer out' work'
    → (answer ≡ Ok tt) × (out' ≡ secret)

-- ---- sealing's choice of a block: a block with any zero error value is passed over

-- random block b has an error value that is zero, for this message
abbrev pub HasZero : Set → List ℕ → List ℕ → ℕ → Type 0
HasZero s msg random b =
    let block = block_at s random b in
    has (error_values s msg (block_seed s block) (block_places s block)) 0 ≡ true

-- what a refusal tells of the blocks: with 9 all of them have one, and the first checks tell nothing
abbrev pub NotChosen : Set → List ℕ → List ℕ → Refusal → Type 0
NotChosen s msg random ZeroValues = (i : ℕ) → i < length random / s.block → HasZero s msg random i
NotChosen s msg random UnknownSet = Unit
NotChosen s msg random WrongLength = Unit
NotChosen s msg random WrongSecret = Unit
NotChosen s msg random FewMultipliers = ⊥
NotChosen s msg random FewElements = ⊥
NotChosen s msg random NoWindow = ⊥
NotChosen s msg random Dependent = ⊥
NotChosen s msg random Malformed = ⊥
NotChosen s msg random Singular8 = ⊥
NotChosen s msg random NotOpened = ⊥

-- what an answer tells of the blocks: block b is used, it has no zero value, and every block before it has one
abbrev pub Chosen : Set → List ℕ → List ℕ → Answer → Type 0
Chosen s msg random (Ok b) =
    (b < length random / s.block) × (HasZero s msg random b → ⊥) × ((i : ℕ) → i < b → HasZero s msg random i)
Chosen s msg random (Err refusal) = NotChosen s msg random refusal

-- so a block is passed over exactly if one of its error values is zero, and 9 is answered exactly if every block is passed over
abbrev pub SealChooses : Set → Type 0
SealChooses s =
    (key random msg cipher work : List ℕ) → get_or key 0 0 ≡ s.byte
    → Chosen s msg random (seal_ends key random msg cipher work).answer

abbrev pub WrapChooses : Set → Type 0
WrapChooses s =
    (key random secret cipher work : List ℕ) → get_or key 0 0 ≡ s.byte
    → Chosen s (secret_message s secret) random (wrap_ends key random secret cipher work).answer

-- Two answers that both satisfy it are equal: what opening and unwrapping promise leaves one answer and one content of
-- each buffer, for all inputs
abbrev pub OpenOnce : Type 0
OpenOnce =
    (key cipher out work : List ℕ) (a a' : Opened) (out₁ out₂ work₁ work₂ : List ℕ)
    → OpenEnds key cipher out work a out₁ work₁ → OpenEnds key cipher out work a' out₂ work₂
    → (a ≡ a') × (out₁ ≡ out₂) × (work₁ ≡ work₂)

abbrev pub UnwrapOnce : Type 0
UnwrapOnce =
    (key cipher out work : List ℕ) (a a' : Opened) (out₁ out₂ work₁ work₂ : List ℕ)
    → UnwrapEnds key cipher out work a out₁ work₁ → UnwrapEnds key cipher out work a' out₂ work₂
    → (a ≡ a') × (out₁ ≡ out₂) × (work₁ ≡ work₂)

-- ---- the way of a message through the calls, whatever the set byte and whatever was lent

-- whatever setup wrote with answer 0: whatever sealing wrote under its public key with answer 0, opening with its private key answers 0 and
-- writes the message that was sealed
abbrev pub SealedArrives : Type 0
SealedArrives =
    (byte : ℕ) (first public private work : List ℕ) (count : ℕ) → Small 8 first
    → let made = setup_ends byte first public private work in
    made.answer ≡ Ok count
    → (random msg cipher work₁ : List ℕ) (b : ℕ) → Small 8 random → Small 8 msg
    → let sealed = seal_ends made.public random msg cipher work₁ in
    sealed.answer ≡ Ok b
    → (out work₂ out' work' : List ℕ) (answer : Opened) → length out ≡ length msg → length work₂ ≡ length work
    → OpenEnds made.private sealed.cipher out work₂ answer out' work'
    → (answer ≡ Ok tt) × (out' ≡ msg)

-- and the KEM pair likewise, for secrets of every allowed length
abbrev pub WrappedArrives : Type 0
WrappedArrives =
    (byte : ℕ) (first public private work : List ℕ) (count : ℕ) → Small 8 first
    → let made = setup_ends byte first public private work in
    made.answer ≡ Ok count
    → (random secret cipher work₁ : List ℕ) (b : ℕ) → Small 8 random → Small 8 secret
    → let wrapped = wrap_ends made.public random secret cipher work₁ in
    wrapped.answer ≡ Ok b
    → (out work₂ out' work' : List ℕ) (answer : Opened) → length out ≡ length secret → length work₂ ≡ length work
    → UnwrapEnds made.private wrapped.cipher out work₂ answer out' work'
    → (answer ≡ Ok tt) × (out' ≡ secret)

-- and every string of the ciphertext's length is answered: by the message of the triple whose ciphertext it is, or by 10
abbrev pub StringsAnswered : Type 0
StringsAnswered =
    (byte : ℕ) (s : Set) → set_of byte ≡ Some s
    → (first public private work : List ℕ) (count : ℕ) → Small 8 first
    → let made = setup_ends byte first public private work in
    made.answer ≡ Ok count
    → (cipher out work₁ out' work' : List ℕ) (answer : Opened)
    → length cipher ≡ s.cipher → Small 8 cipher → length out ≡ s.k1 → length work₁ ≡ s.work
    → OpenEnds made.private cipher out work₁ answer out' work' → Answered s made.public cipher out answer out'

-- ---- all of it
pub record Demands (s : Set) : Type 0 where
  pub at_most_one : AtMostOne s
  pub setup_good : SetupGood s
  pub good_promised : GoodPromised s
  pub demand3 : Demand3 s
  pub open_answers : OpenAnswers s
  pub seal_opens : SealOpens s
  pub wrap_opens : WrapOpens s
  pub seal_chooses : SealChooses s
  pub wrap_chooses : WrapChooses s
