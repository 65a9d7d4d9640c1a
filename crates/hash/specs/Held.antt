-- Not of the standard: what inner contracts say of a message that comes in parts, and of a block whose rounds are under way.
-- Callers outside the crate need `Holds` alone.
use Rattle.std.specs.Prelude.{◌≡◌, ℕ, ◌+◌, ◌*◌, ◌/◌, ◌%◌, ◌<◌, ◌≤◌, List, length, take, drop, slice_index}
use Rattle.hash.specs.declared.word.Words.{Words}
use Rattle.hash.specs.declared.hasher.Hasher.{Hasher}
use Rattle.hash.specs.Word.{add, ssig0, ssig1}
use Rattle.hash.specs.Constants.{initial}
use Rattle.hash.specs.Sha.{schedule, rounds, chain}

-- the hasher h was given the message m so far: the hash value after its whole blocks, the bytes after them, its length
pub record Holds (h : Hasher) (m : List ℕ) : Type 0 where
  pub state_is : h.state ≡ chain initial m (length m / 128)
  pub rest_is : take (length m % 128) h.rest ≡ drop (128 * (length m / 128)) m
  pub rest_long : length h.rest ≡ 128
  pub len_is : h.len ≡ length m

-- the ring w holds the words n - 16 .. n - 1 of the block b, word j in place j modulo 16
pub record Ring (b : List ℕ) (n : ℕ) (w : List ℕ) : Type 0 where
  pub long : length w ≡ 16
  pub words : (j : ℕ) → j < n → n ≤ j + 16 → slice_index w (j % 16) ≡ slice_index (schedule b 80) j

-- the word that takes place p of a ring, from those that stand 2, 7, 15 and 16 places before it
abbrev pub next_word : List ℕ → ℕ → ℕ
next_word w p =
    add (add (add (ssig1 (slice_index w ((p + 14) % 16))) (slice_index w ((p + 9) % 16))) (ssig0 (slice_index w ((p + 1) % 16)))) (slice_index w p)

-- after t rounds of the block b from the hash value s the variables are v
pub record At (s : Words) (b : List ℕ) (t : ℕ) (v : Words) : Type 0 where
  pub state : v ≡ rounds s (schedule b 80) t
