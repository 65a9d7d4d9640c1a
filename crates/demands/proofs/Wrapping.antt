-- The KEM pair: what is wrapped unwraps to the secret. The wrapped message begins with it, and opening gives no other message.
use mathlib.Core.Path.{◌≡◌, refl, sym, ap, subst, ◌∙◌}
use mathlib.Core.Bool.{Bool, true, false, ◌&&◌, false≢true}
use mathlib.Core.List.{List, [], ◌∷◌}
use Prim.Native.Nat.{ℕ, zero, suc, ◌-◌, ◌≤◌, ◌<◌}
use native.Mathlib.Omega.{arith}
use lib.Dec.{leb}
use lib.Pow.{pow_pos}
use lib.Seq.{take_at}
use lib.ListN.{length, get_or, take, replicate, length-append, length-replicate}
use borrow.Author.Tests.{eq-eqb}
use Rattle.lists.specs.Loops.{pick}
use Rattle.gf.specs.Field.{width}
use Rattle.bits.specs.Bits.{Small}
use Rattle.sets.specs.declared.Set.{Set}
use Rattle.std.specs.Prelude.{Some, Ok, Err}
use Rattle.sets.specs.Table.{set_of}
use Rattle.sets.specs.Valid.{Valid}
use Rattle.scheme.specs.declared.Refusal.TheVariants.{UnknownSet, WrongLength, Malformed, Singular as SingularW, ZeroValues, NotOpened, WrongSecret, FewMultipliers, FewElements, NoWindow, Dependent}
use Rattle.scheme.specs.Answers.{Opened}
use Rattle.scheme.specs.Field.{field_of}
use Rattle.scheme.specs.Sealing.{secret_message}
use Rattle.scheme.specs.Opening.{Opens}
use Rattle.scheme.specs.Calls.{SealEnd, seal_lengths, after_seal, wrap_of, wrap_ends, open_lengths, OpenCase, GivesSecret, UnwrapSized, UnwrapChecked, UnwrapOf, UnwrapEnds}
use Rattle.demands.specs.Demands.{Sealed, GoodPair, WrapOpens}
use Rattle.demands.proofs.Finding.{at_most_one}
use Rattle.demands.proofs.Promised.{promised}
use Rattle.demands.proofs.Setup.{setup-pairs}
use Rattle.demands.proofs.Only.{small-append}
use Rattle.demands.proofs.Calls.{both, first_of, second-of, after-found, sealed-long}
use Rattle.tie.proofs.Choices.{le-true, true-le}

-- ---- the wrapped message
module _ (s : Set) (secret : List ℕ) where
  pub message-long : length secret ≤ s.k1 → length (secret_message s secret) ≡ s.k1
  unfolding secret_message
  message-long h =
      length-append secret (replicate (s.k1 - length secret) 0) ∙ omega (arith, length-replicate {A = ℕ} (s.k1 - length secret) 0)

  message-bytes : Small 8 secret → Small 8 (secret_message s secret)
  unfolding secret_message
  message-bytes h = small-append 8 secret _ h (zeros (s.k1 - length secret))
    where
      zeros : (n : ℕ) → Small 8 (replicate n 0)
      zeros zero i = pow_pos 8
      zeros (suc n) zero = pow_pos 8
      zeros (suc n) (suc i) = zeros n i

  secret-back : take (length secret) (secret_message s secret) ≡ secret
  unfolding secret_message
  secret-back = take_at secret _ (length secret) refl

-- ---- wrapping
module _ (s : Set) (ok : Valid s) (named : set_of s.byte ≡ Some s) (public random secret cipher work : List ℕ) (b : ℕ)
    (small : Small 8 random) (bytes : Small 8 secret) where
  abbrev sized : Bool
  sized = leb 1 (length secret) && leb (length secret) s.k1

  -- the end gives the answer b: the secret is not too long, and the ciphertext is that of a triple with the wrapped message
  abbrev Gives : SealEnd → Type 0
  Gives r = r.answer ≡ Ok b → (1 ≤ length secret) × (length secret ≤ s.k1) × Sealed s public r.cipher (secret_message s secret)

  of-known : Gives (wrap_of (Some s) public random secret cipher work)
  of-known = go (seal_lengths s (length public) (length random) (length cipher) (length work)) sized refl
    where
      go : (t u : Bool) → leb 1 (length secret) && leb (length secret) s.k1 ≡ u
          → Gives (pick t (pick u (after_seal s public random (secret_message s secret) cipher work) (record { answer = Err WrongSecret; cipher = cipher; work = work })) (record { answer = Err WrongLength; cipher = cipher; work = work }))
      go true true q a =
          let h : length secret ≤ s.k1 = le-true _ _ (second-of (leb 1 (length secret)) (leb (length secret) s.k1) q) in
          let g : 1 ≤ length secret = le-true _ _ (first_of (leb 1 (length secret)) (leb (length secret) s.k1) q) in
          (g, h, after-found s ok named public random (secret_message s secret) cipher work b small (message-bytes s secret bytes) (message-long s secret h) a)
      go true false q a = absurd (let z : ◌≡◌ {A = ℕ} 0 1 = cc in omega arith)
      go false u q a = absurd (let z : ◌≡◌ {A = ℕ} 0 1 = cc in omega arith)

  -- THEOREM (wrap, triple). What wrapping gives on 0 is the ciphertext of a triple with the wrapped message.
  pub wrap-gives : get_or public 0 0 ≡ s.byte → 0 < length public → Gives (wrap_ends public random secret cipher work)
  unfolding wrap_ends
  wrap-gives byte-is some = go public refl
    where
      go : (k : List ℕ) → k ≡ public → Gives (wrap_ends k random secret cipher work)
      go [] q = absurd (omega (arith, ap length q))
      go (byte ∷ k) q =
          let names : set_of byte ≡ Some s = ap (λ (l : List ℕ). set_of (get_or l 0 0)) q ∙ ap set_of byte-is ∙ named in
          rw names (subst (λ (l : List ℕ). Gives (wrap_of (Some s) l random secret cipher work)) (sym q) of-known)

-- ---- unwrapping
module _ (s : Set) (ok : Valid s) (e : width (field_of s) ≡ s.m) (named : set_of s.byte ≡ Some s) (public private : List ℕ) (G : GoodPair s public private) where
  module _ (cipher msg out work out' work' : List ℕ) (P : Sealed s public cipher msg) (g : 1 ≤ length out) (h : length out ≤ s.k1) (area : length work ≡ s.work) where
    O : Opens s private cipher msg
    O = (promised s ok e public private G).exactly.opens cipher msg P

    by-case : (answer : Opened) → OpenCase s private (GivesSecret s private cipher (length out)) out answer out' → (answer ≡ Ok tt) × (out' ≡ take (length out) msg)
    by-case (Ok done) (w, n, (m, o, q)) = (
      refl,
      q ∙ ap (take (length out)) (at_most_one s ok e private cipher m msg G.private_long G.well_formed G.regular o O),
    )
    by-case (Err Malformed) (m, z) = absurd (m G.well_formed)
    by-case (Err SingularW) ((w, m), z) = absurd (G.regular m)
    by-case (Err NotOpened) ((w, n, m), z) = absurd (m (take (length out) msg) (msg, O, refl))
    by-case (Err UnknownSet) c = absurd c.0
    by-case (Err WrongLength) c = absurd c.0
    by-case (Err FewMultipliers) c = absurd c.0
    by-case (Err FewElements) c = absurd c.0
    by-case (Err NoWindow) c = absurd c.0
    by-case (Err Dependent) c = absurd c.0
    by-case (Err ZeroValues) c = absurd c.0
    by-case (Err WrongSecret) c = absurd c.0

    sized-out : (b : Bool) (answer : Opened) → b ≡ true → UnwrapSized b s private cipher out work answer out' work' → (answer ≡ Ok tt) × (out' ≡ take (length out) msg)
    sized-out true answer t o = by-case answer o.case
    sized-out false answer t o = absurd (false≢true t)

    checked : (b : Bool) (answer : Opened) → b ≡ true → UnwrapChecked b s private cipher out work answer out' work' → (answer ≡ Ok tt) × (out' ≡ take (length out) msg)
    checked true answer t o =
        sized-out (leb 1 (length out) && leb (length out) s.k1) answer (both (leb 1 (length out)) (leb (length out) s.k1) (true-le 1 (length out) g) (true-le (length out) s.k1 h)) o
    checked false answer t o = absurd (false≢true t)

    of-set : (answer : Opened) → UnwrapOf (Some s) private cipher out work answer out' work' → (answer ≡ Ok tt) × (out' ≡ take (length out) msg)
    of-set answer o =
        checked (open_lengths s (length private) (length cipher) (length work)) answer
        (both _ _ (eq-eqb _ _ G.private_long) (both _ _ (eq-eqb _ _ (sealed-long s ok e named public cipher msg P).0) (eq-eqb _ _ area))) o

    pub unwraps : (answer : Opened) → UnwrapEnds private cipher out work answer out' work' → (answer ≡ Ok tt) × (out' ≡ take (length out) msg)
    unwraps answer o = go private refl o
      where
        go : (k : List ℕ) → k ≡ private → UnwrapEnds k cipher out work answer out' work' → (answer ≡ Ok tt) × (out' ≡ take (length out) msg)
        go [] q o = absurd (omega (arith, ap length q, G.private_long, ok.private_is))
        go (byte ∷ k) q o =
            let names : set_of byte ≡ Some s = ap (λ (l : List ℕ). set_of (get_or l 0 0)) q ∙ ap set_of G.private_byte ∙ named in
            of-set answer (rw (q, names) at o)

-- THEOREM (wrap, opens). What is wrapped with our public key unwraps with our private key, to the secret.
pub wrap-opens : (s : Set) → Valid s → width (field_of s) ≡ s.m → set_of s.byte ≡ Some s → WrapOpens s
wrap-opens s ok e named public private O random secret cipher work b small bytes a out work₁ out' work' answer room area o =
    let G : GoodPair s public private = setup-pairs s ok e public private O in
    let p = wrap-gives s ok named public random secret cipher work b small bytes G.public_byte (omega (arith, G.public_long, ok.public_is)) a in
    let r = unwraps s ok e named public private G (wrap_ends public random secret cipher work).cipher (secret_message s secret) out work₁ out' work' p.2 (omega (arith, p.0)) (omega (arith, p.1)) area answer o in
    (r.0, r.1 ∙ ap (λ (n : ℕ). take n (secret_message s secret)) room ∙ secret-back s secret)
