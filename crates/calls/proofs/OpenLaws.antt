-- The promises of opening and unwrapping, case by case.
use mathlib.Core.Path.{◌≡◌, refl, sym, ap, ◌∙◌}
use mathlib.Core.Bool.{Bool, true, false, ◌&&◌}
use mathlib.Core.List.{List, [], ◌∷◌}
use Prim.Native.Nat.{ℕ, ◌+◌, ◌-◌, ◌≤◌}
use native.Mathlib.Omega.{arith}
use lib.Dec.{leb}
use lib.ListN.{length, take, replicate, length-replicate, replicate-append-replicate}
use lib.Seq.{take_at}
use borrow.Author.Tests.{eq-eqb, ne_eqb}
use Rattle.std.specs.Prelude.{Some, Ok, Err}
use Rattle.sets.specs.declared.Set.{Set}
use Rattle.scheme.specs.Answers.{Opened as Disclosed}
use Rattle.scheme.specs.declared.Refusal.{Refusal}
use Rattle.scheme.specs.declared.Refusal.TheVariants.{UnknownSet, WrongLength, FewMultipliers, FewElements, NoWindow, Dependent, Malformed, Singular, ZeroValues, NotOpened, WrongSecret}
use Rattle.scheme.specs.Opening.{Opens}
use Rattle.scheme.specs.Calls.{zeroed, Untouched, open_lengths, OpenRefuses, OpenCase, Opening, GivesSecret, OpenOf, OpenEnds, UnwrapOf, UnwrapEnds}
use Rattle.calls.specs.Given.{NamesSet, NamesNone}

-- ---- past the first checks
-- the front of a message that is opened; of one that is refused, zeros
take-zeroed : (l m : List ℕ) → length m ≤ length l → take (length m) (zeroed l) ≡ zeroed m
take-zeroed l m h =
    let j : ℕ = length l - length m in
    let n : length l ≡ length m + j = omega arith in
    ap (λ (k : ℕ). take (length m) (replicate k 0)) n ∙ ap (take (length m)) (sym (replicate-append-replicate (length m) j 0)) ∙ take_at (replicate (length m) 0) (replicate j 0) (length m) (length-replicate (length m) 0)

module _ (s : Set) (key cipher secret : List ℕ) where
  abbrev Gives : List ℕ → Type 0
  Gives = GivesSecret s key cipher (length secret)

  refuses : (e : Refusal) → OpenRefuses s key (Opens s key cipher) e → OpenRefuses s key Gives e
  refuses Malformed o = o
  refuses Singular o = o
  refuses NotOpened (w, n, o) = (w, n, λ l (m, p, q). o m p)
  refuses UnknownSet o = absurd o
  refuses WrongLength o = absurd o
  refuses FewMultipliers o = absurd o
  refuses FewElements o = absurd o
  refuses NoWindow o = absurd o
  refuses Dependent o = absurd o
  refuses ZeroValues o = absurd o
  refuses WrongSecret o = absurd o

  case-front : (msg msg₁ : List ℕ) → length secret ≤ length msg → (a : Disclosed) → OpenCase s key (Opens s key cipher) msg a msg₁
      → OpenCase s key Gives secret a (take (length secret) msg₁)
  case-front msg msg₁ h (Ok done) (w, n, o) = (w, n, (msg₁, o, refl))
  case-front msg msg₁ h (Err e) (o, z) = (refuses e o, ap (take (length secret)) z ∙ take-zeroed msg secret h)

  pub unwrapped : (msg msg₁ work work₁ : List ℕ) (a : Disclosed) → Opening s key cipher (Opens s key cipher) msg work a msg₁ work₁
      → length secret ≤ length msg → (secret₁ : List ℕ) → secret₁ ≡ take (length secret) msg₁
      → Opening s key cipher (GivesSecret s key cipher (length secret)) secret work a secret₁ work₁
  unwrapped msg msg₁ work work₁ a o h secret₁ q =
      record { case = rw q (case-front msg msg₁ h a o.case); wiped = o.wiped }

-- ---- the first checks
untouched : (e : Refusal) (out work : List ℕ) → Untouched e out work (Err e) out work
untouched e out work = record { answers = refl; same_out = refl; same_work = refl }

pub open-refused : (key cipher out work : List ℕ) (e : Refusal) → NamesNone key e → OpenEnds key cipher out work (Err e) out work
open-refused [] cipher out work e q = rw q (untouched WrongLength out work)
open-refused (byte ∷ key) cipher out work e (n, q) = rw (n, q) (untouched UnknownSet out work)

pub unwrap-refused : (key cipher out work : List ℕ) (e : Refusal) → NamesNone key e → UnwrapEnds key cipher out work (Err e) out work
unwrap-refused [] cipher out work e q = rw q (untouched WrongLength out work)
unwrap-refused (byte ∷ key) cipher out work e (n, q) = rw (n, q) (untouched UnknownSet out work)

open-past : (s : Set) (key cipher out work : List ℕ) (b : Disclosed) (out₂ work₂ : List ℕ) → NamesSet key s → OpenOf (Some s) key cipher out work b out₂ work₂ → OpenEnds key cipher out work b out₂ work₂
open-past s [] cipher out work b out₂ work₂ h o = absurd h
open-past s (byte ∷ key) cipher out work b out₂ work₂ h o = rw h o

unwrap-past : (s : Set) (key cipher out work : List ℕ) (b : Disclosed) (out₂ work₂ : List ℕ) → NamesSet key s → UnwrapOf (Some s) key cipher out work b out₂ work₂ → UnwrapEnds key cipher out work b out₂ work₂
unwrap-past s [] cipher out work b out₂ work₂ h o = absurd h
unwrap-past s (byte ∷ key) cipher out work b out₂ work₂ h o = rw h o

module _ (s : Set) (key cipher work : List ℕ) (t : Bool) (is : t ≡ open_lengths s (length key) (length cipher) (length work)) where
  module _ (h : t ≡ true) where
    right : open_lengths s (length key) (length cipher) (length work) ≡ true
    right = sym is ∙ h

  module _ (named : NamesSet key s) (out : List ℕ) where
    pub open-wrong : t ≡ false → OpenEnds key cipher out work (Err WrongLength) out work
    open-wrong h = open-past s key cipher out work _ out work named (rw (← is, h) (untouched WrongLength out work))

    pub unwrap-wrong : t ≡ false → UnwrapEnds key cipher out work (Err WrongLength) out work
    unwrap-wrong h = unwrap-past s key cipher out work _ out work named (rw (← is, h) (untouched WrongLength out work))

    module _ (h : t ≡ true) where
      pub open-other : (length out ≡ s.k1 → ⊥) → OpenEnds key cipher out work (Err WrongLength) out work
      open-other d = open-past s key cipher out work _ out work named (rw (right h, ne_eqb (length out) s.k1 d) (untouched WrongLength out work))

      pub open-done : length out ≡ s.k1 → (b : Disclosed) (out₂ work₂ : List ℕ) → Opening s key cipher (Opens s key cipher) out work b out₂ work₂ → OpenEnds key cipher out work b out₂ work₂
      open-done d b out₂ work₂ x = open-past s key cipher out work b out₂ work₂ named (rw (right h, eq-eqb (length out) s.k1 d) x)

      pub unwrap-other : (u : Bool) → u ≡ leb 1 (length out) && leb (length out) s.k1 → u ≡ false → UnwrapEnds key cipher out work (Err WrongSecret) out work
      unwrap-other u q d = unwrap-past s key cipher out work _ out work named (rw (right h, ← q, d) (untouched WrongSecret out work))

      pub unwrap-done : (u : Bool) → u ≡ leb 1 (length out) && leb (length out) s.k1 → u ≡ true → (b : Disclosed) (out₂ work₂ : List ℕ) → Opening s key cipher (GivesSecret s key cipher (length out)) out work b out₂ work₂ → UnwrapEnds key cipher out work b out₂ work₂
      unwrap-done u q d b out₂ work₂ x = unwrap-past s key cipher out work b out₂ work₂ named (rw (right h, ← q, d) x)
