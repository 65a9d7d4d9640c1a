-- How many numbers opening works in.
use Rattle.std.specs.Prelude.{ℕ, ◌+◌, ◌-◌, ◌*◌}
use Rattle.sets.specs.declared.Set.{Set}
use Rattle.sets.specs.Valid.{key_elements}

-- what is computed from the key: GE; P2 and P1; the places I and T; W and beside it its inverse
abbrev pub key_room : Set → ℕ
key_room s = key_elements s + (s.n + s.w) + s.n + s.k + s.k + s.k * (s.k + s.k)

-- what is computed from the ciphertext: the elements received, the word that is decoded, and room for decoding or for what comes after it
abbrev pub cipher_room : Set → ℕ
cipher_room s =
    s.t * (s.t + 1) + s.n + (s.t + s.t + (s.t + s.t)) + (s.t + 1) + s.n + s.n + s.t + s.k + s.t + s.t + s.k + (s.n + s.w - s.k) + s.k

abbrev pub open_room : Set → ℕ
open_room s = key_room s + cipher_room s
