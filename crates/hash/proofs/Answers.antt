-- The two calls' contracts leave one answer and one slice.
use Rattle.std.proofs.Common.{◌≡◌, List, ℕ, refl, sym, ◌∙◌}
use Rattle.std.specs.Prelude.{Result, Ok, Err}
use Rattle.lists.specs.declared.Refused.{Refused}
use Rattle.hash.specs.Answers.{Digested, Masked}

pub digested-once : (message before : List ℕ) {a b : Result (Unit {0}) Refused} {x y : List ℕ} → Digested message before a x → Digested message before b y → (a ≡ b) × (x ≡ y)
digested-once message before {a = Ok _} {b = Ok _} p q = (refl, p.1 ∙ sym q.1)
digested-once message before {a = Ok _} {b = Err _} p q = absurd (q.0 p.0)
digested-once message before {a = Err _} {b = Ok _} p q = absurd (p.0 q.0)
digested-once message before {a = Err _} {b = Err _} p q = (refl, p.1 ∙ sym q.1)

pub masked-once : (seed before : List ℕ) {a b : Result (Unit {0}) Refused} {x y : List ℕ} → Masked seed before a x → Masked seed before b y → (a ≡ b) × (x ≡ y)
masked-once seed before {a = Ok _} {b = Ok _} p q = (refl, p.2 ∙ sym q.2)
masked-once seed before {a = Ok _} {b = Err _} p q = absurd (q.0 p.0 p.1)
masked-once seed before {a = Err _} {b = Ok _} p q = absurd (p.0 q.0 q.1)
masked-once seed before {a = Err _} {b = Err _} p q = (refl, p.1 ∙ sym q.1)
