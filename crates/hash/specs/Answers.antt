-- What the crate's calls answer, and what the slice that they are lent holds afterwards.
use Rattle.std.specs.Prelude.{◌≡◌, ◌≢◌, List, ℕ, ◌≤◌, Result, Ok, Err, length}
use Rattle.lists.specs.declared.Refused.{Refused}
use Rattle.hash.specs.Sha.{sha512}
use Rattle.hash.specs.Mask.{mgf}

-- hashing: of the message, and the slice before and after; it has to be 64 bytes long
abbrev pub Digested : List ℕ → List ℕ → Result (Unit {0}) Refused → List ℕ → Type 0
Digested message before (Ok done) after = (length before ≡ 64) × (after ≡ sha512 message)
Digested message before (Err refused) after = (length before ≢ 64) × (after ≡ before)

-- the mask: of the seed, and the slice before and after; neither may be above 65536 bytes
abbrev pub Masked : List ℕ → List ℕ → Result (Unit {0}) Refused → List ℕ → Type 0
Masked seed before (Ok done) after = (length seed ≤ 65536) × (length before ≤ 65536) × (after ≡ mgf seed (length before))
Masked seed before (Err refused) after = (length seed ≤ 65536 → length before ≤ 65536 → ⊥) × (after ≡ before)
