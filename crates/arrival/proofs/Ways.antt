-- The way of a message, step by step.
use mathlib.Core.Path.{◌≡◌, sym, ap, subst, ◌∙◌}
use mathlib.Core.List.{List}
use Prim.Native.Nat.{ℕ, ◌≤◌}
use native.Mathlib.Omega.{arith}
use lib.Pow.{pow_pos}
use lib.ListN.{length, length-replicate, get_or-eq_default}
use Rattle.std.specs.Prelude.{Ok, Err}
use Rattle.scheme.specs.declared.Refusal.{Refusal}
use Rattle.scheme.specs.Answers.{Answer, Opened as Disclosed}
use Rattle.scheme.specs.Calls.{zeroed, SetupEnd, SealEnd, setup_ends, seal_ends, wrap_ends, OpenEnds, UnwrapEnds}
use Rattle.calls.specs.Ends.{setup_end, seal_end}
use Rattle.demands.specs.Demand1.{Area}
use Rattle.demands.proofs.Ending.{demand1}
use Rattle.demands.proofs.Arriving.{sealed-arrives, wrapped-arrives}
use Rattle.arrival.specs.declared.Way.{Way}
use Rattle.arrival.specs.declared.Way.TheVariants.{NotMade, NotSealed, Opened}
use Rattle.arrival.specs.Arrives.{Bytes, Then, stays, goes, unmade, unsealed, arrived, SealedThen, WrappedThen, SealedWay, WrappedWay}

-- ---- bytes
pub small-empty : (l : List ℕ) → length l ≡ 0 → Bytes l
small-empty l e = record { small = λ j. rw (get_or-eq_default l 0 (let q : length l ≤ j = omega arith in q)) (pow_pos 8) }

-- the work area of a call that is done
area-done : (a : Answer) (c : ℕ) → a ≡ Ok c → (l l' : List ℕ) → Area a l l' → length l' ≡ length l
area-done a c e l l' h =
    let z : l' ≡ zeroed l = subst (λ (x : Answer). Area x l l') e h in
    ap length z ∙ length-replicate {A = ℕ} (length l) 0

-- ---- with keys
module _ (public private random msg cipher room work : List ℕ) (a : Answer) (c w : List ℕ) where
  answer-of : (x : SealEnd) → seal_end a c w ≡ x → x.answer ≡ a
  answer-of x e = ap (λ (x : SealEnd). x.answer) (sym e)

  pub not-sealed : seal_end a c w ≡ seal_ends public random msg cipher work → (r : Refusal) → a ≡ Err r → (after : List ℕ) → SealedThen public private random msg cipher room work (NotSealed r) after
  not-sealed e r q after = stays (answer-of _ e ∙ q)

  pub then-opened : seal_end a c w ≡ seal_ends public random msg cipher work → (b : ℕ) → a ≡ Ok b
      → (r : Disclosed) (after work' : List ℕ) → OpenEnds private c room w r after work' → SealedThen public private random msg cipher room work (Opened r) after
  then-opened e b q r after work' o =
      subst (λ (x : SealEnd). Then x (λ c w r after work'. OpenEnds private c room w r after work') (Opened r) after) e (goes q o)

  pub not-wrapped : seal_end a c w ≡ wrap_ends public random msg cipher work → (r : Refusal) → a ≡ Err r → (after : List ℕ) → WrappedThen public private random msg cipher room work (NotSealed r) after
  not-wrapped e r q after = stays (answer-of _ e ∙ q)

  pub then-unwrapped : seal_end a c w ≡ wrap_ends public random msg cipher work → (b : ℕ) → a ≡ Ok b
      → (r : Disclosed) (after work' : List ℕ) → UnwrapEnds private c room w r after work' → WrappedThen public private random msg cipher room work (Opened r) after
  then-unwrapped e b q r after work' o =
      subst (λ (x : SealEnd). Then x (λ c w r after work'. UnwrapEnds private c room w r after work') (Opened r) after) e (goes q o)

-- ---- the whole way
module _ (byte : ℕ) (first random msg public private cipher room work : List ℕ) (a : Answer) (p q w : List ℕ) (e : setup_end a p q w ≡ setup_ends byte first public private work) where
  abbrev made : SetupEnd
  made = setup_ends byte first public private work

  answered : made.answer ≡ a
  answered = ap (λ (x : SetupEnd). x.answer) (sym e)

  pub way-unmade : (r : Refusal) → a ≡ Err r → (after : List ℕ) → SealedWay byte first random msg public private cipher room work (NotMade r) after
  way-unmade r d after = unmade (answered ∙ d)

  pub way-unwrapped : (r : Refusal) → a ≡ Err r → (after : List ℕ) → WrappedWay byte first random msg public private cipher room work (NotMade r) after
  way-unwrapped r d after = unmade (answered ∙ d)

  module _ (m : ℕ) (d : a ≡ Ok m) (kept : length w ≡ length work) (of-first : Bytes first) (of-random : Bytes random) (of-msg : Bytes msg) where
    done : made.answer ≡ Ok m
    done = answered ∙ d

    area : length made.work ≡ length work
    area = ap (λ (x : SetupEnd). length x.work) (sym e) ∙ kept

    abbrev sealed : SealEnd
    sealed = seal_ends made.public random msg cipher made.work

    abbrev wrapped : SealEnd
    wrapped = wrap_ends made.public random msg cipher made.work

    from-sealed : (r : Way) (after : List ℕ) → Then sealed (λ c w r after work'. OpenEnds made.private c room w r after work') r after
        → SealedWay byte first random msg public private cipher room work r after
    from-sealed r after (stays f) = unsealed done f
    from-sealed r after (goes {b = n} {r = x} {after = y} {work' = z} f o) =
        arrived done f
        (λ long. sealed-arrives byte first public private work m of-first.small done random msg cipher made.work n of-random.small of-msg.small f room sealed.work y z x long
        (area-done sealed.answer n f made.work sealed.work (demand1.every_seal made.public random msg cipher made.work).1 ∙ area) o)

    pub way-sealed : (r : Way) (after : List ℕ) → SealedThen p q random msg cipher room w r after → SealedWay byte first random msg public private cipher room work r after
    way-sealed r after s =
        from-sealed r after
        (subst (λ (x : SetupEnd). Then (seal_ends x.public random msg cipher x.work) (λ c w r after work'. OpenEnds x.private c room w r after work') r after) e s)

    from-wrapped : (r : Way) (after : List ℕ) → Then wrapped (λ c w r after work'. UnwrapEnds made.private c room w r after work') r after
        → WrappedWay byte first random msg public private cipher room work r after
    from-wrapped r after (stays f) = unsealed done f
    from-wrapped r after (goes {b = n} {r = x} {after = y} {work' = z} f o) =
        arrived done f
        (λ long. wrapped-arrives byte first public private work m of-first.small done random msg cipher made.work n of-random.small of-msg.small f room wrapped.work y z x long
        (area-done wrapped.answer n f made.work wrapped.work (demand1.every_wrap made.public random msg cipher made.work).1 ∙ area) o)

    pub way-wrapped : (r : Way) (after : List ℕ) → WrappedThen p q random msg cipher room w r after → WrappedWay byte first random msg public private cipher room work r after
    way-wrapped r after s =
        from-wrapped r after
        (subst (λ (x : SetupEnd). Then (wrap_ends x.public random msg cipher x.work) (λ c w r after work'. UnwrapEnds x.private c room w r after work') r after) e s)
