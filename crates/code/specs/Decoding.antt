-- What decoding answers (RLCE-KEM specification of September 14, 2017, section 7.14, rs_decode): the code word within t places. It is bounded-distance decoding.
use Rattle.std.specs.Prelude.{◌≡◌, List, ℕ, ◌+◌, ◌≤◌}
use Rattle.gf.specs.Field.{Modulus}
use Rattle.code.specs.Words.{CodeWord, apart}
use Rattle.std.specs.Prelude.{Result, Ok, Err}
use Rattle.code.specs.declared.Undecodable.{Undecodable}

-- c is a code word, for 2t = n - k, at most t places apart from the word y
pub record Near (F : Modulus) (n t : ℕ) (y c : List ℕ) : Type 0 where
  pub code : CodeWord F n (t + t) c
  pub close : apart n c y ≤ t

-- from the word y, decoding gives the answer and leaves the word z: the code word near y; or, where none is near, y itself
abbrev pub Decodes : Modulus → ℕ → ℕ → List ℕ → Result Unit Undecodable → List ℕ → Type 0
Decodes F n t y (Ok x) z = Near F n t y z
Decodes F n t y (Err x) z = (z ≡ y) × ((c : List ℕ) → Near F n t y c → ⊥)
