-- What holds of a message that went through the calls, for all inputs.
use Rattle.std.specs.Prelude.{◌≡◌, List, ℕ, length, Ok, Err}
use Rattle.bits.specs.Bits.{Small}
use Rattle.scheme.specs.declared.Refusal.{Refusal}
use Rattle.scheme.specs.Answers.{Answer, Opened as Disclosed}
use Rattle.scheme.specs.Calls.{SealEnd, setup_ends, seal_ends, wrap_ends, OpenEnds, UnwrapEnds}
use Rattle.arrival.specs.declared.Way.{Way}
use Rattle.arrival.specs.declared.Way.TheVariants.{NotMade, NotSealed, Opened}

-- every number is a byte
pub record Bytes (l : List ℕ) : Type 0 where
  pub small : Small 8 l

-- ---- the way with keys: it ends with sealing's refusal, or else with opening's answer to what was sealed
pub data Then (sealed : SealEnd) (Ends : List ℕ → List ℕ → Disclosed → List ℕ → List ℕ → Type 0) : Way → List ℕ → Type 0 where
  stays : {e : Refusal} {after : List ℕ} → sealed.answer ≡ Err e → Then sealed Ends (NotSealed e) after
  goes : {b : ℕ} {r : Disclosed} {after work' : List ℕ} → sealed.answer ≡ Ok b → Ends sealed.cipher sealed.work r after work' → Then sealed Ends (Opened r) after

abbrev pub SealedThen : List ℕ → List ℕ → List ℕ → List ℕ → List ℕ → List ℕ → List ℕ → Way → List ℕ → Type 0
SealedThen public private random msg cipher room work =
    Then (seal_ends public random msg cipher work) (λ c w r after work'. OpenEnds private c room w r after work')

abbrev pub WrappedThen : List ℕ → List ℕ → List ℕ → List ℕ → List ℕ → List ℕ → List ℕ → Way → List ℕ → Type 0
WrappedThen public private random secret cipher room work =
    Then (wrap_ends public random secret cipher work) (λ c w r after work'. UnwrapEnds private c room w r after work')

-- ---- the whole way, from setup's answer a and sealing's answer b: it ends with the first of them that is a refusal; else the message arrives
pub data Arrives (a b : Answer) (msg room : List ℕ) : Way → List ℕ → Type 0 where
  unmade : {e : Refusal} {after : List ℕ} → a ≡ Err e → Arrives a b msg room (NotMade e) after
  unsealed : {m : ℕ} {e : Refusal} {after : List ℕ} → a ≡ Ok m → b ≡ Err e → Arrives a b msg room (NotSealed e) after
  arrived : {m n : ℕ} {r : Disclosed} {after : List ℕ} → a ≡ Ok m → b ≡ Ok n → (length room ≡ length msg → (r ≡ Ok tt) × (after ≡ msg)) → Arrives a b msg room (Opened r) after

abbrev pub SealedWay : ℕ → List ℕ → List ℕ → List ℕ → List ℕ → List ℕ → List ℕ → List ℕ → List ℕ → Way → List ℕ → Type 0
SealedWay byte first random msg public private cipher room work =
    let made = setup_ends byte first public private work in
    Arrives made.answer (seal_ends made.public random msg cipher made.work).answer msg room

abbrev pub WrappedWay : ℕ → List ℕ → List ℕ → List ℕ → List ℕ → List ℕ → List ℕ → List ℕ → List ℕ → Way → List ℕ → Type 0
WrappedWay byte first random secret public private cipher room work =
    let made = setup_ends byte first public private work in
    Arrives made.answer (wrap_ends made.public random secret cipher made.work).answer secret room
