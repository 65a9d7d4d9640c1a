-- Past the first checks every call gives what the definitions give.
use mathlib.Core.Path.{◌≡◌, refl, sym, ap, ◌∙◌}
use mathlib.Core.Bool.{Bool, true, false}
use mathlib.Core.List.{List, ◌∷◌}
use Prim.Native.Nat.{ℕ, ◌/◌, ◌≤◌, ◌<◌}
use native.Mathlib.Omega.{arith}
use lib.Dec.{ltb}
use lib.ListN.{length}
use borrow.Author.Tests.{eq-eqb}
use Rattle.sets.specs.declared.Set.{Set}
use Rattle.std.specs.Prelude.{Some, Ok, Err}
use Rattle.sets.specs.Table.{set_of}
use Rattle.scheme.specs.declared.Refusal.TheVariants.{ZeroValues}
use Rattle.scheme.specs.Answers.{Opened}
use Rattle.scheme.specs.Setup.{Made, made, fails, setup}
use Rattle.scheme.specs.Sealing.{first_fitting, sealed_by, secret_message}
use Rattle.scheme.specs.Opening.{Opens}
use Rattle.scheme.specs.Calls.{zeroed, setup_lengths, after_setup, setup_ends, seal_lengths, after_seal, seal_ends, wrap_ends, open_lengths, OpenCase, OpenChecked, OpenOf, OpenEnds, GivesSecret, UnwrapSized, UnwrapChecked, UnwrapOf, UnwrapEnds}
use Rattle.demands.specs.Demand2.{SetupLent, SealLent, OpenLent, Demand2}
use Rattle.tie.proofs.Choices.{lt-true, true-lt, true-le}
use Rattle.demands.proofs.Calls.{both}
use Rattle.demands.proofs.Wrapping.{message-long}

lt_not : (a b : ℕ) → b ≤ a → ltb a b ≡ false
lt_not a b h = go (ltb a b) refl
  where
    go : (t : Bool) → ltb a b ≡ t → ltb a b ≡ false
    go false e = e
    go true e = let q : a < b = lt-true a b e in absurd (omega arith)

module _ (s : Set) (byte : ℕ) (named : set_of byte ≡ Some s) where
  -- ---- setup
  module _ (random public private work : List ℕ) (L : SetupLent s random public private work) where
    setup-lengths : setup_lengths s (length random) (length public) (length private) (length work) ≡ true
    setup-lengths =
        both _ _ (eq-eqb _ _ L.random_long) (both _ _ (eq-eqb _ _ L.public_long) (both _ _ (eq-eqb _ _ L.private_long) (eq-eqb _ _ L.work_long)))

    setup-past : setup_ends byte random public private work ≡ after_setup (setup s random) public private work
    unfolding setup_ends
    setup-past = rw (named, setup-lengths)

    pub setup-gives : (m : Made) → setup s random ≡ m → setup_ends byte random public private work ≡ after_setup m public private work
    setup-gives m e = setup-past ∙ ap (λ (r : Made). after_setup r public private work) e

  -- ---- sealing and wrapping
  module _ (key random cipher work : List ℕ) (L : SealLent s (byte ∷ key) random cipher work) where
    seal-lengths : seal_lengths s (length (byte ∷ key)) (length random) (length cipher) (length work) ≡ true
    seal-lengths =
        both _ _ (eq-eqb _ _ L.key_long)
        (both _ _ (eq-eqb _ _ L.whole)
        (both _ _ (true-le _ _ L.some)
        (both _ _ (true-le _ _ L.few)
        (both _ _ (eq-eqb _ _ L.cipher_long) (eq-eqb _ _ L.work_long)))))

    pub seal-past : (msg : List ℕ) → length msg ≡ s.k1 → seal_ends (byte ∷ key) random msg cipher work ≡ after_seal s (byte ∷ key) random msg cipher work
    unfolding seal_ends
    seal-past msg h = rw (named, both _ _ seal-lengths (eq-eqb _ _ h))

    pub wrap-past : (secret : List ℕ) → 1 ≤ length secret → length secret ≤ s.k1
        → wrap_ends (byte ∷ key) random secret cipher work ≡ after_seal s (byte ∷ key) random (secret_message s secret) cipher work
    unfolding wrap_ends
    wrap-past secret g h = rw (named, seal-lengths, both _ _ (true-le _ _ g) (true-le _ _ h))

    pub by_first : (msg : List ℕ) → first_fitting s msg random < length random / s.block
        → after_seal s (byte ∷ key) random msg cipher work ≡ record { answer = Ok (first_fitting s msg random); cipher = sealed_by s (byte ∷ key) msg random (first_fitting s msg random); work = zeroed work }
    unfolding after_seal
    by_first msg h = rw (true-lt _ _ h)

    pub nowhere : (msg : List ℕ) → length random / s.block ≤ first_fitting s msg random
        → after_seal s (byte ∷ key) random msg cipher work ≡ record { answer = Err ZeroValues; cipher = zeroed cipher; work = zeroed work }
    unfolding after_seal
    nowhere msg h = rw (lt_not _ _ h)

  -- ---- opening and unwrapping
  module _ (key cipher out work : List ℕ) (L : OpenLent s (byte ∷ key) cipher work) (answer : Opened) (out' work' : List ℕ) where
    open-lengths : open_lengths s (length (byte ∷ key)) (length cipher) (length work) ≡ true
    open-lengths = both _ _ (eq-eqb _ _ L.key_long) (both _ _ (eq-eqb _ _ L.cipher_long) (eq-eqb _ _ L.work_long))

    pub open-past : length out ≡ s.k1 → OpenEnds (byte ∷ key) cipher out work answer out' work'
        → OpenCase s (byte ∷ key) (Opens s (byte ∷ key) cipher) out answer out'
    open-past h o =
        let p : OpenOf (Some s) (byte ∷ key) cipher out work answer out' work' = rw named at o in
        let q : OpenChecked true s (byte ∷ key) cipher out work answer out' work' = rw (both _ _ open-lengths (eq-eqb _ _ h)) at p in
        q.case

    pub unwrap-past : 1 ≤ length out → length out ≤ s.k1 → UnwrapEnds (byte ∷ key) cipher out work answer out' work'
        → OpenCase s (byte ∷ key) (GivesSecret s (byte ∷ key) cipher (length out)) out answer out'
    unwrap-past g h o =
        let p : UnwrapOf (Some s) (byte ∷ key) cipher out work answer out' work' = rw named at o in
        let q : UnwrapChecked true s (byte ∷ key) cipher out work answer out' work' = rw open-lengths at p in
        let r : UnwrapSized true s (byte ∷ key) cipher out work answer out' work' = rw (both _ _ (true-le _ _ g) (true-le _ _ h)) at q in
        r.case

-- THEOREM (demand2). Every call gives what the definitions give.
pub demand2 : (s : Set) → Demand2 s
demand2 s =
    record {
      setup_made = λ byte n random public private work L p q count e. setup-gives s byte n random public private work L (made p q count) e;
      setup_fails = λ byte n random public private work L a e. setup-gives s byte n random public private work L (fails a) e;
      seal_by = λ byte n key random msg cipher work L h g. seal-past s byte n key random cipher work L msg h ∙ by_first s byte n key random cipher work L msg g;
      seal_nowhere = λ byte n key random msg cipher work L h g. seal-past s byte n key random cipher work L msg h ∙ nowhere s byte n key random cipher work L msg g;
      wrap_seals = λ byte n key random secret cipher work L g h.
          wrap-past s byte n key random cipher work L secret g h ∙ sym (seal-past s byte n key random cipher work L (secret_message s secret) (message-long s secret h));
      open_case = λ byte n key cipher out work L h answer out' work' o. open-past s byte n key cipher out work L answer out' work' h o;
      unwrap_case = λ byte n key cipher out work L g h answer out' work' o. unwrap-past s byte n key cipher out work L answer out' work' g h o;
    }
