-- What opening and unwrapping promise leaves one answer: the cases exclude each other, and there is one message at most.
use mathlib.Core.Path.{◌≡◌, refl, sym, ap, ◌∙◌}
use mathlib.Core.Bool.{Bool, true, false, ◌&&◌}
use mathlib.Core.List.{List, [], ◌∷◌}
use Prim.Native.Nat.{ℕ}
use lib.Dec.{eqb, leb}
use lib.ListN.{length, take}
use borrow.Author.Tests.{eqb-true}
use Rattle.gf.specs.Field.{width}
use Rattle.sets.specs.declared.Set.{Set}
use Rattle.std.specs.Prelude.{Option, Some, None, Ok, Err}
use Rattle.sets.specs.Table.{set_of}
use Rattle.sets.specs.Valid.{Valid}
use Rattle.sets.proofs.Valid.{known}
use Rattle.scheme.specs.declared.Refusal.{Refusal}
use Rattle.scheme.specs.declared.Refusal.TheVariants.{UnknownSet, WrongLength, Malformed, Singular as SingularW, ZeroValues, NotOpened, WrongSecret, FewMultipliers, FewElements, NoWindow, Dependent}
use Rattle.scheme.specs.Answers.{Opened}
use Rattle.scheme.specs.Field.{field_of}
use Rattle.scheme.specs.Keys.{WellFormed, read}
use Rattle.scheme.specs.Opening.{Singular, Opens}
use Rattle.scheme.specs.Calls.{zeroed, Untouched, open_lengths, OpenCase, Opening, OpenChecked, OpenOf, GivesSecret, UnwrapSized, UnwrapChecked, UnwrapOf}
use Rattle.demands.specs.Demands.{OpenOnce, UnwrapOnce}
use Rattle.demands.proofs.Finding.{at_most_one}
use Rattle.demands.proofs.Calls.{first_of}
use Rattle.demands.proofs.Known.{known-width}

-- the same answer, the same buffers
abbrev Same : Opened → Opened → List ℕ → List ℕ → List ℕ → List ℕ → Type 0
Same a a' out₁ out₂ work₁ work₂ = (a ≡ a') × (out₁ ≡ out₂) × (work₁ ≡ work₂)

untouched-once : (b : Refusal) (out work : List ℕ) (a a' : Opened) (out₁ out₂ work₁ work₂ : List ℕ) → Untouched b out work a out₁ work₁
    → Untouched b out work a' out₂ work₂ → Same a a' out₁ out₂ work₁ work₂
untouched-once b out work a a' out₁ out₂ work₁ work₂ p q =
    (p.answers ∙ sym q.answers, p.same_out ∙ sym q.same_out, p.same_work ∙ sym q.same_work)

-- ---- past the first checks
module _ (s : Set) (key before : List ℕ) (Gives : List ℕ → Type 0) where
  -- the four cases that there are
  data Case : Opened → List ℕ → Type 0 where
    gave : {l : List ℕ} → WellFormed s key → (Singular s (read s key) → ⊥) → Gives l → Case (Ok tt) l
    bad : (WellFormed s key → ⊥) → Case (Err Malformed) (zeroed before)
    stuck : WellFormed s key → Singular s (read s key) → Case (Err SingularW) (zeroed before)
    gave_none : WellFormed s key → (Singular s (read s key) → ⊥) → ((l : List ℕ) → Gives l → ⊥) → Case (Err NotOpened) (zeroed before)

  case-of : (a : Opened) (l : List ℕ) → OpenCase s key Gives before a l → Case a l
  case-of (Ok done) l (w, n, g) = gave w n g
  case-of (Err Malformed) l (m, z) = rw z (bad m)
  case-of (Err SingularW) l ((w, m), z) = rw z (stuck w m)
  case-of (Err NotOpened) l ((w, n, m), z) = rw z (gave_none w n m)
  case-of (Err UnknownSet) l c = absurd c.0
  case-of (Err WrongLength) l c = absurd c.0
  case-of (Err FewMultipliers) l c = absurd c.0
  case-of (Err FewElements) l c = absurd c.0
  case-of (Err NoWindow) l c = absurd c.0
  case-of (Err Dependent) l c = absurd c.0
  case-of (Err ZeroValues) l c = absurd c.0
  case-of (Err WrongSecret) l c = absurd c.0

  module _ (one : WellFormed s key → (Singular s (read s key) → ⊥) → (l l' : List ℕ) → Gives l → Gives l' → l ≡ l') where
    case-once : (a a' : Opened) (l l' : List ℕ) → Case a l → Case a' l' → (a ≡ a') × (l ≡ l')
    case-once a a' l l' (gave w n g) (gave v m h) = (refl, one w n _ _ g h)
    case-once a a' l l' (gave w n g) (bad m) = absurd (m w)
    case-once a a' l l' (gave w n g) (stuck v m) = absurd (n m)
    case-once a a' l l' (gave w n g) (gave_none v m o) = absurd (o _ g)
    case-once a a' l l' (bad m) (gave w n g) = absurd (m w)
    case-once a a' l l' (bad m) (bad o) = (refl, refl)
    case-once a a' l l' (bad m) (stuck w o) = absurd (m w)
    case-once a a' l l' (bad m) (gave_none w n o) = absurd (m w)
    case-once a a' l l' (stuck w m) (gave v n g) = absurd (n m)
    case-once a a' l l' (stuck w m) (bad o) = absurd (o w)
    case-once a a' l l' (stuck w m) (stuck v o) = (refl, refl)
    case-once a a' l l' (stuck w m) (gave_none v n o) = absurd (n m)
    case-once a a' l l' (gave_none w n o) (gave v m g) = absurd (o _ g)
    case-once a a' l l' (gave_none w n o) (bad m) = absurd (m w)
    case-once a a' l l' (gave_none w n o) (stuck v m) = absurd (n m)
    case-once a a' l l' (gave_none w n o) (gave_none v m p) = (refl, refl)

    opening-once : (cipher work : List ℕ) (a a' : Opened) (out₁ out₂ work₁ work₂ : List ℕ) → Opening s key cipher Gives before work a out₁ work₁
        → Opening s key cipher Gives before work a' out₂ work₂ → Same a a' out₁ out₂ work₁ work₂
    opening-once cipher work a a' out₁ out₂ work₁ work₂ p q =
        let r = case-once a a' out₁ out₂ (case-of a out₁ p.case) (case-of a' out₂ q.case) in
        (r.0, r.1, p.wiped ∙ sym q.wiped)

-- ---- a set of the table
module _ (s : Set) (ok : Valid s) (e : width (field_of s) ≡ s.m) (key cipher out work : List ℕ) (a a' : Opened) (out₁ out₂ work₁ work₂ : List ℕ) where
  abbrev All : Type 0
  All = Same a a' out₁ out₂ work₁ work₂

  one : length key ≡ s.private → WellFormed s key → (Singular s (read s key) → ⊥) → (l l' : List ℕ) → Opens s key cipher l → Opens s key cipher l' → l ≡ l'
  one long w n l l' = at_most_one s ok e key cipher l l' long w n

  long_of : open_lengths s (length key) (length cipher) (length work) ≡ true → length key ≡ s.private
  long_of t =
      eqb-true (length key) s.private (first_of (eqb (length key) s.private) (eqb (length cipher) s.cipher && eqb (length work) s.work) t)

  open-checked : (b : Bool) → (b ≡ true → length key ≡ s.private) → OpenChecked b s key cipher out work a out₁ work₁
      → OpenChecked b s key cipher out work a' out₂ work₂ → All
  open-checked true f p q = opening-once s key out (Opens s key cipher) (one (f refl)) cipher work a a' out₁ out₂ work₁ work₂ p q
  open-checked false f p q = untouched-once WrongLength out work a a' out₁ out₂ work₁ work₂ p q

  pub open-known : OpenOf (Some s) key cipher out work a out₁ work₁ → OpenOf (Some s) key cipher out work a' out₂ work₂ → All
  open-known =
      open-checked (open_lengths s (length key) (length cipher) (length work) && eqb (length out) s.k1)
      (λ t. long_of (first_of (open_lengths s (length key) (length cipher) (length work)) (eqb (length out) s.k1) t))

  unwrap-sized : length key ≡ s.private → (b : Bool) → UnwrapSized b s key cipher out work a out₁ work₁
      → UnwrapSized b s key cipher out work a' out₂ work₂ → All
  unwrap-sized long true p q =
      opening-once s key out (GivesSecret s key cipher (length out))
      (λ w n l l' g h. g.2 ∙ ap (take (length out)) (one long w n g.0 h.0 g.1 h.1) ∙ sym h.2) cipher work a a' out₁ out₂ work₁ work₂ p q
  unwrap-sized long false p q = untouched-once WrongSecret out work a a' out₁ out₂ work₁ work₂ p q

  unwrap-checked : (b : Bool) → (b ≡ true → length key ≡ s.private) → UnwrapChecked b s key cipher out work a out₁ work₁
      → UnwrapChecked b s key cipher out work a' out₂ work₂ → All
  unwrap-checked true f p q = unwrap-sized (f refl) (leb 1 (length out) && leb (length out) s.k1) p q
  unwrap-checked false f p q = untouched-once WrongLength out work a a' out₁ out₂ work₁ work₂ p q

  pub unwrap-known : UnwrapOf (Some s) key cipher out work a out₁ work₁ → UnwrapOf (Some s) key cipher out work a' out₂ work₂ → All
  unwrap-known = unwrap-checked (open_lengths s (length key) (length cipher) (length work)) long_of

-- ---- all inputs

-- THEOREM (open, once).
pub open-once : OpenOnce
open-once [] cipher out work a a' out₁ out₂ work₁ work₂ p q = untouched-once WrongLength out work a a' out₁ out₂ work₁ work₂ p q
open-once (byte ∷ key) cipher out work a a' out₁ out₂ work₁ work₂ p q = go (set_of byte) refl p q
  where
    go : (n : Option Set) → set_of byte ≡ n → OpenOf n (byte ∷ key) cipher out work a out₁ work₁ → OpenOf n (byte ∷ key) cipher out work a' out₂ work₂
        → Same a a' out₁ out₂ work₁ work₂
    go (Some s) e p q = open-known s (known byte s e).valid (known-width byte s e) (byte ∷ key) cipher out work a a' out₁ out₂ work₁ work₂ p q
    go None e p q = untouched-once UnknownSet out work a a' out₁ out₂ work₁ work₂ p q

-- THEOREM (unwrap, once).
pub unwrap-once : UnwrapOnce
unwrap-once [] cipher out work a a' out₁ out₂ work₁ work₂ p q = untouched-once WrongLength out work a a' out₁ out₂ work₁ work₂ p q
unwrap-once (byte ∷ key) cipher out work a a' out₁ out₂ work₁ work₂ p q = go (set_of byte) refl p q
  where
    go : (n : Option Set) → set_of byte ≡ n → UnwrapOf n (byte ∷ key) cipher out work a out₁ work₁ → UnwrapOf n (byte ∷ key) cipher out work a' out₂ work₂
        → Same a a' out₁ out₂ work₁ work₂
    go (Some s) e p q = unwrap-known s (known byte s e).valid (known-width byte s e) (byte ∷ key) cipher out work a a' out₁ out₂ work₁ work₂ p q
    go None e p q = untouched-once UnknownSet out work a a' out₁ out₂ work₁ work₂ p q
