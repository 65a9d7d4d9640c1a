-- The way of a message through the calls: what setup wrote is a pair of ours, so what is sealed or wrapped with it opens.
use mathlib.Core.Path.{◌≡◌, refl, ap, ◌∙◌}
use mathlib.Core.Bool.{Bool, true, false, ◌&&◌}
use mathlib.Core.List.{List, [], ◌∷◌}
use Prim.Native.Nat.{ℕ}
use native.Mathlib.Omega.{arith}
use lib.Dec.{eqb}
use lib.ListN.{length, get_or}
use borrow.Author.Tests.{eqb-true}
use Rattle.lists.specs.Loops.{pick}
use Rattle.bits.specs.Bits.{Small}
use Rattle.sets.specs.declared.Set.{Set}
use Rattle.std.specs.Prelude.{Option, Some, None, Ok, Err}
use Rattle.sets.specs.Table.{set_of}
use Rattle.scheme.specs.declared.Refusal.TheVariants.{WrongLength}
use Rattle.scheme.specs.Setup.{Made, made, fails, setup}
use Rattle.sets.proofs.Valid.{known}
use Rattle.scheme.specs.Calls.{SetupEnd, setup_lengths, after_setup, setup_of, setup_ends, SealEnd, seal_lengths, after_seal, seal_ends}
use Rattle.demands.specs.Demands.{Ours, Demands, SealedArrives, WrappedArrives, StringsAnswered}
use Rattle.demands.proofs.Calls.{first_of, second-of}
use Rattle.demands.proofs.Demands.{known-demands}

-- ---- a setup that was done

-- its set, and that its keys are a pair of ours
pub record Founded (byte : ℕ) (work : List ℕ) (r : SetupEnd) : Type 0 where
  pub s : Set
  pub named : set_of byte ≡ Some s
  pub ours : Ours s r.public r.private
  pub area : length work ≡ s.work

module _ (byte : ℕ) (random public private work : List ℕ) (count : ℕ) (small : Small 8 random) where
  abbrev Gives : SetupEnd → Type 0
  Gives r = r.answer ≡ Ok count → Founded byte work r

  of-made : (s : Set) → set_of byte ≡ Some s → length random ≡ s.random → length work ≡ s.work → (m : Made) → setup s random ≡ m → Gives (after_setup m public private work)
  of-made s n long area (made p q c) e a =
      record { s = s; named = n; ours = record { random = random; long = long; bytes = small; count = c; is = e }; area = area }
  of-made s n long area (fails x) e a = absurd (let z : ◌≡◌ {A = ℕ} 0 1 = cc in omega arith)

  of-lengths : (s : Set) → set_of byte ≡ Some s → (b : Bool) → setup_lengths s (length random) (length public) (length private) (length work) ≡ b
      → Gives (pick b (after_setup (setup s random) public private work) (record { answer = Err WrongLength; public = public; private = private; work = work }))
  of-lengths s n true e a =
      let r = eqb (length random) s.random in
      let p = eqb (length public) s.public in
      let q = eqb (length private) s.private in
      let w = eqb (length work) s.work in
      of-made s n (eqb-true _ _ (first_of r (p && (q && w)) e)) (eqb-true _ _ (second-of q w (second-of p (q && w) (second-of r (p && (q && w)) e)))) (setup s random) refl a
  of-lengths s n false e a = absurd (let z : ◌≡◌ {A = ℕ} 0 1 = cc in omega arith)

  pub founded : Gives (setup_ends byte random public private work)
  unfolding setup_ends
  founded = go (set_of byte) refl
    where
      go : (k : Option Set) → set_of byte ≡ k → Gives (setup_of k random public private work)
      go (Some s) e a = of-lengths s e (setup_lengths s (length random) (length public) (length private) (length work)) refl a
      go None e a = absurd (let z : ◌≡◌ {A = ℕ} 0 1 = cc in omega arith)

-- ---- the length of what was sealed
module _ (s : Set) (key random msg cipher work : List ℕ) (b : ℕ) where
  abbrev Sized : SealEnd → Type 0
  Sized r = r.answer ≡ Ok b → length msg ≡ s.k1

  pub sealed-size : set_of (get_or key 0 0) ≡ Some s → Sized (seal_ends key random msg cipher work)
  unfolding seal_ends
  sealed-size named = go key refl
    where
      lengths : (k : List ℕ) (l t : Bool) → eqb (length msg) s.k1 ≡ t → Sized (pick (l && t) (after_seal s k random msg cipher work) (record { answer = Err WrongLength; cipher = cipher; work = work }))
      lengths k l true e a = eqb-true _ _ e
      lengths k true false e a = absurd (let z : ◌≡◌ {A = ℕ} 0 1 = cc in omega arith)
      lengths k false false e a = absurd (let z : ◌≡◌ {A = ℕ} 0 1 = cc in omega arith)

      go : (k : List ℕ) → k ≡ key → Sized (seal_ends k random msg cipher work)
      go [] q a = absurd (let z : ◌≡◌ {A = ℕ} 0 1 = cc in omega arith)
      go (byte ∷ k) q a =
          let names : set_of byte ≡ Some s = ap (λ (l : List ℕ). set_of (get_or l 0 0)) q ∙ named in
          lengths (byte ∷ k) (seal_lengths s (length (byte ∷ k)) (length random) (length cipher) (length work)) (eqb (length msg) s.k1) refl (rw names at a)

-- ---- all the way
module _ (byte : ℕ) (first public private work : List ℕ) (count : ℕ) (small : Small 8 first) (d : (setup_ends byte first public private work).answer ≡ Ok count) where
  F : Founded byte work (setup_ends byte first public private work)
  F = founded byte first public private work count small d

  D : Demands F.s
  D = known-demands byte F.s F.named

-- THEOREM (sealed, arrives).
pub sealed-arrives : SealedArrives
sealed-arrives byte first public private work count small d random msg cipher work₁ b sr sm e out work₂ out' work' answer lo lw o =
    let f = F byte first public private work count small d in
    let G = (D byte first public private work count small d).setup_good _ _ f.ours in
    let named : set_of (get_or (setup_ends byte first public private work).public 0 0) ≡ Some f.s = ap set_of G.public_byte ∙ ap set_of (known byte f.s f.named).names ∙ f.named in
    (D byte first public private work count small d).seal_opens _ _ f.ours random msg cipher work₁ b sr sm e out work₂ out' work' answer
    (lo ∙ sealed-size f.s (setup_ends byte first public private work).public random msg cipher work₁ b named e) (lw ∙ f.area) o

-- THEOREM (wrapped, arrives).
pub wrapped-arrives : WrappedArrives
wrapped-arrives byte first public private work count small d random secret cipher work₁ b sr ss e out work₂ out' work' answer lo lw o =
    let f = F byte first public private work count small d in
    (D byte first public private work count small d).wrap_opens _ _ f.ours random secret cipher work₁ b sr ss e out work₂ out' work' answer lo (lw ∙ f.area) o

-- THEOREM (strings, answered).
pub strings-answered : StringsAnswered
strings-answered byte s named first public private work count small d cipher out work₁ out' work' answer lc sc lo lw o =
    let f = F byte first public private work count small d in
    let same : f.s ≡ s = cc f.named in
    let ours : Ours s (setup_ends byte first public private work).public (setup_ends byte first public private work).private = rw same at f.ours in
    (known-demands byte s named).open_answers _ _ ours cipher out work₁ out' work' answer lc sc lo lw o
