-- How every call ends.
use mathlib.Core.Path.{◌≡◌, refl}
use mathlib.Core.Bool.{Bool, true, false, ◌&&◌}
use mathlib.Core.List.{List, [], ◌∷◌}
use Prim.Native.Nat.{ℕ, ◌+◌, ◌/◌}
use lib.Dec.{eqb, leb, ltb}
use lib.ListN.{length}
use Rattle.lists.specs.Loops.{pick}
use Rattle.sets.specs.declared.Set.{Set}
use Rattle.std.specs.Prelude.{Option, Some, None, Ok, Err}
use Rattle.sets.specs.Table.{set_of}
use Rattle.scheme.specs.declared.Refusal.{Refusal}
use Rattle.scheme.specs.declared.Refusal.TheVariants.{UnknownSet, WrongLength, FewMultipliers, FewElements, NoWindow, Dependent, Malformed, Singular, ZeroValues, NotOpened, WrongSecret}
use Rattle.scheme.specs.Answers.{Opened}
use Rattle.scheme.specs.Field.{field_of}
use Rattle.scheme.specs.Keys.{public_key, private_key}
use Rattle.scheme.specs.Setup.{Made, made, fails, Found, found, none, usable, blocks, block_elements, window, reduced_pair, with_blocks, setup}
use Rattle.scheme.specs.Sealing.{first_fitting, sealed_by, secret_message}
use Rattle.scheme.specs.Opening.{Opens}
use Rattle.scheme.specs.Calls.{zeroed, SetupEnd, setup_lengths, after_setup, setup_of, setup_ends, SealEnd, seal_lengths, after_seal, seal_of, seal_ends, wrap_of, wrap_ends, open_lengths, OpenCase, OpenChecked, OpenOf, OpenEnds, GivesSecret, UnwrapSized, UnwrapChecked, UnwrapOf, UnwrapEnds, Untouched, OpenRefuses}
use Rattle.demands.specs.Demand1.{Output, Area, Demand1}
use Rattle.demands.proofs.Made.{end_of, ge_of, key_made}

-- ---- setup's refusals are four
abbrev pub OfSetup : Refusal → Type 0
OfSetup FewMultipliers = Unit
OfSetup FewElements = Unit
OfSetup NoWindow = Unit
OfSetup Dependent = Unit
OfSetup UnknownSet = ⊥
OfSetup WrongLength = ⊥
OfSetup WrongSecret = ⊥
OfSetup Malformed = ⊥
OfSetup Singular = ⊥
OfSetup ZeroValues = ⊥
OfSetup NotOpened = ⊥

abbrev pub Refuses : Made → Type 0
Refuses (made p q c) = Unit
Refuses (fails a) = OfSetup a

module _ (s : Set) (random : List ℕ) where
  reduced-refuses : (A : List ℕ) (p : ℕ) → Refuses (reduced_pair s random A p)
  unfolding reduced_pair
  reduced-refuses A p = go (ltb (end_of s random A p).cols s.k)
    where
      go : (b : Bool) → Refuses (pick b (fails Dependent) (made (public_key s (ge_of s random A p)) (private_key s (key_made s random A p)) (p + 1)))
      go true = tt
      go false = tt

  blocks-refuses : (f : Found) → Refuses (with_blocks s random f)
  unfolding with_blocks
  blocks-refuses none = tt
  blocks-refuses (found A) = go (ltb (window s random) 5)
    where
      go : (b : Bool) → Refuses (pick b (reduced_pair s random A (window s random)) (fails NoWindow))
      go true = reduced-refuses A (window s random)
      go false = tt

  pub setup-refuses : Refuses (setup s random)
  unfolding setup
  setup-refuses = go (ltb (length (usable s random)) s.n)
    where
      go : (b : Bool) → Refuses (pick b (fails FewMultipliers) (with_blocks s random (blocks (field_of s) s.w (block_elements s random))))
      go true = tt
      go false = blocks-refuses (blocks (field_of s) s.w (block_elements s random))

-- ---- setup
module _ (random public private work : List ℕ) where
  abbrev Ends : SetupEnd → Type 0
  Ends r = Output r.answer public r.public × Output r.answer private r.private × Area r.answer work r.work

  after-ends : (m : Made) → Refuses m → Ends (after_setup m public private work)
  after-ends (made p q c) h = (tt, tt, refl)
  after-ends (fails FewMultipliers) h = (refl, refl, refl)
  after-ends (fails FewElements) h = (refl, refl, refl)
  after-ends (fails NoWindow) h = (refl, refl, refl)
  after-ends (fails Dependent) h = (refl, refl, refl)
  after-ends (fails UnknownSet) h = absurd h
  after-ends (fails WrongLength) h = absurd h
  after-ends (fails WrongSecret) h = absurd h
  after-ends (fails Malformed) h = absurd h
  after-ends (fails Singular) h = absurd h
  after-ends (fails ZeroValues) h = absurd h
  after-ends (fails NotOpened) h = absurd h

  setup-ends : (byte : ℕ) → Ends (setup_ends byte random public private work)
  unfolding setup_ends
  setup-ends byte = go (set_of byte)
    where
      lengths : (s : Set) (b : Bool) → Ends (pick b (after_setup (setup s random) public private work) (record { answer = Err WrongLength; public = public; private = private; work = work }))
      lengths s true = after-ends (setup s random) (setup-refuses s random)
      lengths s false = (refl, refl, refl)

      go : (k : Option Set) → Ends (setup_of k random public private work)
      go None = (refl, refl, refl)
      go (Some s) = lengths s (setup_lengths s (length random) (length public) (length private) (length work))

-- ---- sealing and wrapping
module _ (random cipher work : List ℕ) where
  abbrev Closes : SealEnd → Type 0
  Closes r = Output r.answer cipher r.cipher × Area r.answer work r.work

  after-closes : (s : Set) (key msg : List ℕ) → Closes (after_seal s key random msg cipher work)
  unfolding after_seal
  after-closes s key msg = go (ltb (first_fitting s msg random) (length random / s.block))
    where
      go : (b : Bool) → Closes (pick b (record { answer = Ok (first_fitting s msg random); cipher = sealed_by s key msg random (first_fitting s msg random); work = zeroed work }) (record { answer = Err ZeroValues; cipher = zeroed cipher; work = zeroed work }))
      go true = (tt, refl)
      go false = (refl, refl)

  checked : (s : Set) (key msg : List ℕ) (b : Bool) → Closes (pick b (after_seal s key random msg cipher work) (record { answer = Err WrongLength; cipher = cipher; work = work }))
  checked s key msg true = after-closes s key msg
  checked s key msg false = (refl, refl)

  seal-ends : (key msg : List ℕ) → Closes (seal_ends key random msg cipher work)
  unfolding seal_ends
  seal-ends [] msg = (refl, refl)
  seal-ends (byte ∷ key) msg = go (set_of byte)
    where
      go : (k : Option Set) → Closes (seal_of k (byte ∷ key) random msg cipher work)
      go None = (refl, refl)
      go (Some s) = checked s (byte ∷ key) msg (seal_lengths s (length (byte ∷ key)) (length random) (length cipher) (length work) && eqb (length msg) s.k1)

  sized : (s : Set) (key msg : List ℕ) (b : Bool) → Closes (pick b (after_seal s key random msg cipher work) (record { answer = Err WrongSecret; cipher = cipher; work = work }))
  sized s key msg true = after-closes s key msg
  sized s key msg false = (refl, refl)

  wrap-ends : (key secret : List ℕ) → Closes (wrap_ends key random secret cipher work)
  unfolding wrap_ends
  wrap-ends [] secret = (refl, refl)
  wrap-ends (byte ∷ key) secret = go (set_of byte)
    where
      lengths : (s : Set) (b : Bool) → Closes (pick b (pick (leb 1 (length secret) && leb (length secret) s.k1) (after_seal s (byte ∷ key) random (secret_message s secret) cipher work) (record { answer = Err WrongSecret; cipher = cipher; work = work })) (record { answer = Err WrongLength; cipher = cipher; work = work }))
      lengths s true = sized s (byte ∷ key) (secret_message s secret) (leb 1 (length secret) && leb (length secret) s.k1)
      lengths s false = (refl, refl)

      go : (k : Option Set) → Closes (wrap_of k (byte ∷ key) random secret cipher work)
      go None = (refl, refl)
      go (Some s) = lengths s (seal_lengths s (length (byte ∷ key)) (length random) (length cipher) (length work))

-- ---- opening and unwrapping
module _ (key cipher out work : List ℕ) (answer : Opened) (out' work' : List ℕ) where
  abbrev Discloses : Opened → Type 0
  Discloses a = Output a out out' × Area a work work'

  late : (s : Set) (k : List ℕ) (G : List ℕ → Type 0) (e : Refusal) → OpenRefuses s k G e → out' ≡ zeroed out → work' ≡ zeroed work → Discloses (Err e)
  late s k G Malformed c y z = (y, z)
  late s k G Singular c y z = (y, z)
  late s k G NotOpened c y z = (y, z)
  late s k G UnknownSet c y z = absurd c
  late s k G WrongLength c y z = absurd c
  late s k G FewMultipliers c y z = absurd c
  late s k G FewElements c y z = absurd c
  late s k G NoWindow c y z = absurd c
  late s k G Dependent c y z = absurd c
  late s k G ZeroValues c y z = absurd c
  late s k G WrongSecret c y z = absurd c

  by-case : (s : Set) (k : List ℕ) (G : List ℕ → Type 0) (a : Opened) → OpenCase s k G out a out' → work' ≡ zeroed work → Discloses a
  by-case s k G (Ok done) c z = (tt, z)
  by-case s k G (Err e) c z = late s k G e c.0 c.1 z

  of-unknown : Untouched UnknownSet out work answer out' work' → Discloses answer
  of-unknown u = rw u.answers (u.same_out, u.same_work)

  of_length : Untouched WrongLength out work answer out' work' → Discloses answer
  of_length u = rw u.answers (u.same_out, u.same_work)

  of-secret : Untouched WrongSecret out work answer out' work' → Discloses answer
  of-secret u = rw u.answers (u.same_out, u.same_work)

  open-checked : (s : Set) (k : List ℕ) (b : Bool) → OpenChecked b s k cipher out work answer out' work' → Discloses answer
  open-checked s k true o = by-case s k (Opens s k cipher) answer o.case o.wiped
  open-checked s k false o = of_length o

  open-ends : (k : List ℕ) → OpenEnds k cipher out work answer out' work' → Discloses answer
  open-ends [] o = of_length o
  open-ends (byte ∷ k) o = go (set_of byte) o
    where
      go : (n : Option Set) → OpenOf n (byte ∷ k) cipher out work answer out' work' → Discloses answer
      go None o = of-unknown o
      go (Some s) o = open-checked s (byte ∷ k) (open_lengths s (length (byte ∷ k)) (length cipher) (length work) && eqb (length out) s.k1) o

  unwrap-sized : (s : Set) (k : List ℕ) (b : Bool) → UnwrapSized b s k cipher out work answer out' work' → Discloses answer
  unwrap-sized s k true o = by-case s k (GivesSecret s k cipher (length out)) answer o.case o.wiped
  unwrap-sized s k false o = of-secret o

  unwrap-checked : (s : Set) (k : List ℕ) (b : Bool) → UnwrapChecked b s k cipher out work answer out' work' → Discloses answer
  unwrap-checked s k true o = unwrap-sized s k (leb 1 (length out) && leb (length out) s.k1) o
  unwrap-checked s k false o = of_length o

  unwrap-ends : (k : List ℕ) → UnwrapEnds k cipher out work answer out' work' → Discloses answer
  unwrap-ends [] o = of_length o
  unwrap-ends (byte ∷ k) o = go (set_of byte) o
    where
      go : (n : Option Set) → UnwrapOf n (byte ∷ k) cipher out work answer out' work' → Discloses answer
      go None o = of-unknown o
      go (Some s) o = unwrap-checked s (byte ∷ k) (open_lengths s (length (byte ∷ k)) (length cipher) (length work)) o

-- THEOREM (demand1). How every call ends.
pub demand1 : Demand1
demand1 =
    record {
      every_setup = λ byte random public private work. setup-ends random public private work byte;
      every_seal = λ key random msg cipher work. seal-ends random cipher work key msg;
      every_wrap = λ key random secret cipher work. wrap-ends random cipher work key secret;
      every_open = λ key cipher out work answer out' work' o. open-ends key cipher out work answer out' work' key o;
      every_unwrap = λ key cipher out work answer out' work' o. unwrap-ends key cipher out work answer out' work' key o;
    }
