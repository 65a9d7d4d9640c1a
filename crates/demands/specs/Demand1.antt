-- How every call ends: it takes any key, random bytes, ciphertext and lengths, and ends with a result or a numbered refusal. A refusal for the set
-- byte, a length or another first check writes nothing. Any other refusal zeroes the output buffers. The work area ends zeroed in every call that
-- gets past the first checks. Said of what each call promises (crate `scheme`, Calls), for all inputs.
use Rattle.std.specs.Prelude.{◌≡◌, List, ℕ, Result, Ok, Err}
use Rattle.scheme.specs.declared.Refusal.{Refusal}
use Rattle.scheme.specs.declared.Refusal.TheVariants.{UnknownSet, WrongLength, FewMultipliers, FewElements, NoWindow, Dependent, Malformed, Singular, ZeroValues, NotOpened, WrongSecret}
use Rattle.scheme.specs.Answers.{Opened}
use Rattle.scheme.specs.Calls.{zeroed, setup_ends, seal_ends, wrap_ends, OpenEnds, UnwrapEnds}

-- a buffer before and after a refusal: untouched by the first checks, which are three; else zeroed
abbrev pub Left : Refusal → List ℕ → List ℕ → Type 0
Left UnknownSet before after = after ≡ before
Left WrongLength before after = after ≡ before
Left WrongSecret before after = after ≡ before
Left FewMultipliers before after = after ≡ zeroed before
Left FewElements before after = after ≡ zeroed before
Left NoWindow before after = after ≡ zeroed before
Left Dependent before after = after ≡ zeroed before
Left Malformed before after = after ≡ zeroed before
Left Singular before after = after ≡ zeroed before
Left ZeroValues before after = after ≡ zeroed before
Left NotOpened before after = after ≡ zeroed before

-- an output buffer: where the call is done, `Demand2` says what it holds
abbrev pub Output : {A : Type 0} → Result A Refusal → List ℕ → List ℕ → Type 0
Output (Ok done) before after = Unit
Output (Err refusal) before after = Left refusal before after

-- the work area: zeroed where the call is done
abbrev pub Area : {A : Type 0} → Result A Refusal → List ℕ → List ℕ → Type 0
Area (Ok done) before after = after ≡ zeroed before
Area (Err refusal) before after = Left refusal before after

pub record Demand1 : Type 0 where
  pub every_setup : (byte : ℕ) (random public private work : List ℕ)
      → let r = setup_ends byte random public private work in
      Output r.answer public r.public × Output r.answer private r.private × Area r.answer work r.work
  pub every_seal : (key random msg cipher work : List ℕ)
      → let r = seal_ends key random msg cipher work in
      Output r.answer cipher r.cipher × Area r.answer work r.work
  pub every_wrap : (key random secret cipher work : List ℕ)
      → let r = wrap_ends key random secret cipher work in
      Output r.answer cipher r.cipher × Area r.answer work r.work
  pub every_open : (key cipher out work : List ℕ) (answer : Opened) (out' work' : List ℕ) → OpenEnds key cipher out work answer out' work'
      → Output answer out out' × Area answer work work'
  pub every_unwrap : (key cipher out work : List ℕ) (answer : Opened) (out' work' : List ℕ) → UnwrapEnds key cipher out work answer out' work'
      → Output answer out out' × Area answer work work'
