-- What the calls promise together, from what each of them leaves.
use mathlib.Core.Path.{◌≡◌, refl, sym, ap, subst, ◌∙◌}
use mathlib.Core.Bool.{Bool, true, false, ◌&&◌, false≢true}
use mathlib.Core.List.{List, [], ◌∷◌}
use Prim.Native.Nat.{ℕ, ◌+◌, ◌/◌, ◌<◌}
use native.Mathlib.Omega.{arith}
use lib.Dec.{eqb, ltb}
use lib.ListN.{length, get_or}
use borrow.Author.Tests.{eq-eqb, eqb-true}
use Rattle.lists.specs.Loops.{pick}
use Rattle.gf.specs.Field.{width}
use Rattle.bits.specs.Bits.{Small}
use Rattle.sets.specs.declared.Set.{Set}
use Rattle.std.specs.Prelude.{Some, Ok, Err}
use Rattle.sets.specs.Table.{set_of}
use Rattle.sets.specs.Valid.{Valid}
use Rattle.scheme.specs.declared.Refusal.TheVariants.{UnknownSet, WrongLength, Malformed, Singular as SingularW, ZeroValues, NotOpened, WrongSecret, FewMultipliers, FewElements, NoWindow, Dependent}
use Rattle.scheme.specs.Answers.{Opened}
use Rattle.scheme.specs.Field.{field_of}
use Rattle.scheme.specs.Sealing.{block_at, fits, first_fitting, sealed_by}
use Rattle.scheme.specs.Opening.{Opens}
use Rattle.scheme.specs.Calls.{zeroed, SealEnd, seal_lengths, after_seal, seal_of, seal_ends, open_lengths, OpenCase, OpenChecked, OpenOf, OpenEnds}
use Rattle.demands.specs.Demands.{Sealed, GoodPair, Answered, opened, refused, OpenAnswers, SealOpens}
use Rattle.tie.proofs.Choices.{lt-true}
use Rattle.demands.proofs.Choosing.{first-there}
use Rattle.demands.proofs.Finding.{at_most_one}
use Rattle.demands.proofs.Promised.{promised}
use Rattle.demands.proofs.Setup.{setup-pairs}
use Rattle.demands.proofs.Blocks.{sealed, cipher-long, cipher-bytes}

-- ---- tests
pub both : (a b : Bool) → a ≡ true → b ≡ true → a && b ≡ true
both a b p q = rw (p, q)

pub first_of : (a b : Bool) → a && b ≡ true → a ≡ true
first_of true b e = refl
first_of false b e = e

pub second-of : (a b : Bool) → a && b ≡ true → b ≡ true
second-of true b e = e
second-of false b e = absurd (false≢true e)

-- ---- opening
module _ (s : Set) (ok : Valid s) (e : width (field_of s) ≡ s.m) (named : set_of s.byte ≡ Some s) (public private : List ℕ) (G : GoodPair s public private) where
  module _ (cipher out work out' work' : List ℕ) (long : length cipher ≡ s.cipher) (bytes : Small 8 cipher) (room : length out ≡ s.k1) (area : length work ≡ s.work) where
    by-case : (answer : Opened) → OpenCase s private (Opens s private cipher) out answer out' → Answered s public cipher out answer out'
    by-case (Ok done) (w, n, o) = opened ((promised s ok e public private G).exactly.only cipher out' long bytes o)
    by-case (Err Malformed) (m, z) = absurd (m G.well_formed)
    by-case (Err SingularW) ((w, m), z) = absurd (G.regular m)
    by-case (Err NotOpened) ((w, n, m), z) = rw z (refused (λ msg o. m msg ((promised s ok e public private G).exactly.opens cipher msg o)))
    by-case (Err UnknownSet) c = absurd c.0
    by-case (Err WrongLength) c = absurd c.0
    by-case (Err FewMultipliers) c = absurd c.0
    by-case (Err FewElements) c = absurd c.0
    by-case (Err NoWindow) c = absurd c.0
    by-case (Err Dependent) c = absurd c.0
    by-case (Err ZeroValues) c = absurd c.0
    by-case (Err WrongSecret) c = absurd c.0

    lengths : open_lengths s (length private) (length cipher) (length work) && eqb (length out) s.k1 ≡ true
    lengths =
        both _ _ (both _ _ (eq-eqb _ _ G.private_long) (both _ _ (eq-eqb _ _ long) (eq-eqb _ _ area))) (eq-eqb _ _ room)

    checked : (b : Bool) (answer : Opened) → b ≡ true → OpenChecked b s private cipher out work answer out' work' → Answered s public cipher out answer out'
    checked true answer t o = by-case answer o.case
    checked false answer t o = absurd (false≢true t)

    of-set : (answer : Opened) → OpenOf (Some s) private cipher out work answer out' work' → Answered s public cipher out answer out'
    of-set answer o = checked _ answer lengths o

    pub open-answers : (answer : Opened) → OpenEnds private cipher out work answer out' work' → Answered s public cipher out answer out'
    open-answers answer o = go private refl o
      where
        go : (k : List ℕ) → k ≡ private → OpenEnds k cipher out work answer out' work' → Answered s public cipher out answer out'
        go [] q o = absurd (omega (arith, ap length q, G.private_long, ok.private_is))
        go (byte ∷ k) q o =
            let names : set_of byte ≡ Some s = ap (λ (l : List ℕ). set_of (get_or l 0 0)) q ∙ ap set_of G.private_byte ∙ named in
            of-set answer (rw (q, names) at o)

-- ---- sealing
module _ (s : Set) (ok : Valid s) (named : set_of s.byte ≡ Some s) (public random msg cipher work : List ℕ) (b : ℕ)
    (small : Small 8 random) (bytes : Small 8 msg) where
  -- the end gives the answer b, and its ciphertext is that of a triple with the message
  abbrev Gives : SealEnd → Type 0
  Gives r = r.answer ≡ Ok b → Sealed s public r.cipher msg

  pub after-found : length msg ≡ s.k1 → Gives (after_seal s public random msg cipher work)
  unfolding after_seal
  after-found long = go (ltb (first_fitting s msg random) (length random / s.block)) refl
    where
      go : (t : Bool) → ltb (first_fitting s msg random) (length random / s.block) ≡ t
          → Gives (pick t (record { answer = Ok (first_fitting s msg random); cipher = sealed_by s public msg random (first_fitting s msg random); work = zeroed work }) (record { answer = Err ZeroValues; cipher = zeroed cipher; work = zeroed work }))
      go true q a = sealed s ok random (first_fitting s msg random) (lt-true _ _ q) public msg long bytes small (found (lt-true _ _ q))
        where
          found : first_fitting s msg random < length random / s.block → fits s msg (block_at s random (first_fitting s msg random)) ≡ true
          found h =
              unfold first_fitting in first-there (λ b. fits s msg (block_at s random b)) (length random / s.block) 0 (let e : 0 + length random / s.block ≡ length random / s.block = omega arith in rw e h)
      go false q a = absurd (let z : ◌≡◌ {A = ℕ} 0 1 = cc in omega arith)

  of-known : Gives (seal_of (Some s) public random msg cipher work)
  of-known = go (seal_lengths s (length public) (length random) (length cipher) (length work) && eqb (length msg) s.k1) refl
    where
      go : (t : Bool) → seal_lengths s (length public) (length random) (length cipher) (length work) && eqb (length msg) s.k1 ≡ t
          → Gives (pick t (after_seal s public random msg cipher work) (record { answer = Err WrongLength; cipher = cipher; work = work }))
      go true q a =
          after-found (eqb-true (length msg) s.k1 (second-of (seal_lengths s (length public) (length random) (length cipher) (length work)) (eqb (length msg) s.k1) q)) a
      go false q a = absurd (let z : ◌≡◌ {A = ℕ} 0 1 = cc in omega arith)

  -- THEOREM (seal, triple). What sealing gives on 0 is the ciphertext of a triple with the message.
  pub seal-gives : get_or public 0 0 ≡ s.byte → 0 < length public → (seal_ends public random msg cipher work).answer ≡ Ok b
      → Sealed s public (seal_ends public random msg cipher work).cipher msg
  unfolding seal_ends
  seal-gives byte-is some = go public refl
    where
      go : (k : List ℕ) → k ≡ public → (seal_ends k random msg cipher work).answer ≡ Ok b → Sealed s public (seal_ends k random msg cipher work).cipher msg
      go [] q = absurd (omega (arith, ap length q))
      go (byte ∷ k) q =
          let names : set_of byte ≡ Some s = ap (λ (l : List ℕ). set_of (get_or l 0 0)) q ∙ ap set_of byte-is ∙ named in
          rw names (subst (λ (l : List ℕ). Gives (seal_of (Some s) l random msg cipher work)) (sym q) of-known)

-- ---- both
module _ (s : Set) (ok : Valid s) (e : width (field_of s) ≡ s.m) (named : set_of s.byte ≡ Some s) where
  -- an answer, of what was sealed with the message
  only-opened : (public private cipher before m : List ℕ) → GoodPair s public private → Sealed s public cipher m → (answer : Opened) (after : List ℕ)
      → Answered s public cipher before answer after → (answer ≡ Ok tt) × (after ≡ m)
  only-opened public private cipher before m G o answer after (opened {msg} p) = (
    refl,
    at_most_one s ok e private cipher msg m G.private_long G.well_formed G.regular
        ((promised s ok e public private G).exactly.opens cipher msg p) ((promised s ok e public private G).exactly.opens cipher m o),
  )
  only-opened public private cipher before m G o answer after (refused n) = absurd (n m o)

  pub sealed-long : (public cipher msg : List ℕ) → Sealed s public cipher msg → (length cipher ≡ s.cipher) × Small 8 cipher
  sealed-long public cipher msg o = (
    ap length (sym o.is) ∙ cipher-long s ok _ msg o.seed o.places,
    rw (← o.is) (cipher-bytes s _ msg o.seed o.places),
  )

  -- THEOREM (open, answers). Opening with our private key answers 0, the message of the triple, or 10, where there is none.
  pub open-all : OpenAnswers s
  open-all public private O cipher out work out' work' answer long bytes room area o =
      open-answers s ok e named public private (setup-pairs s ok e public private O) cipher out work out' work' long bytes room area answer o

  -- THEOREM (seal, opens). What is sealed with our public key opens with our private key, to the message that was sealed.
  pub seal-opens : SealOpens s
  seal-opens public private O random msg cipher work b small bytes a out work₁ out' work' answer room area o =
      let G : GoodPair s public private = setup-pairs s ok e public private O in
      let c = (seal_ends public random msg cipher work).cipher in
      let p : Sealed s public (seal_ends public random msg cipher work).cipher msg = seal-gives s ok named public random msg cipher work b small bytes G.public_byte (omega (arith, G.public_long, ok.public_is)) a in
      let l = sealed-long public c msg p in
      only-opened public private c out msg G p answer out'
      (open-answers s ok e named public private G c out work₁ out' work' l.0 l.1 room area answer o)
