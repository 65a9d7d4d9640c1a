-- What the calls end with, as the definitions of the crate `scheme` have it.
use Rattle.std.specs.Prelude.{List, ℕ}
use Rattle.scheme.specs.Answers.{Answer}
use Rattle.scheme.specs.Calls.{SetupEnd, SealEnd}

-- an answer, with what the lent buffers hold
abbrev pub setup_end : Answer → List ℕ → List ℕ → List ℕ → SetupEnd
setup_end answer public private work = record { answer = answer; public = public; private = private; work = work }

abbrev pub seal_end : Answer → List ℕ → List ℕ → SealEnd
seal_end answer cipher work = record { answer = answer; cipher = cipher; work = work }
