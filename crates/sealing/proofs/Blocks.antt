-- What a random block gives: its places rise, lie below n + w and are t; the word that is sent with them is the ciphertext of the triple.
use mathlib.Core.Path.{◌≡◌, sym, ap, ◌∙◌}
use mathlib.Core.List.{List}
use Prim.Native.Nat.{ℕ, ◌+◌, ◌<◌}
use native.Mathlib.Nat.{zero-add}
use native.Mathlib.Omega.{arith}
use lib.ListN.{length, get_or, take, drop}
use Rattle.bits.specs.Bits.{bytes_for}
use Rattle.bits.proofs.Packing.{elements-small, length-packed}
use Rattle.sets.specs.declared.Set.{Set}
use Rattle.sets.specs.Valid.{Valid}
use Rattle.perm.specs.Shuffle.{shuffled}
use Rattle.scheme.specs.Lists.{has}
use Rattle.scheme.specs.Keys.{public_ge}
use Rattle.scheme.specs.Sealing.{sent, triple_elements, error_values, ciphertext, block_seed, block_places}
use Rattle.sealing.specs.Steps.{Rising, Drawn}
use Rattle.sealing.specs.Seals.{Ready, sent_by}
use Rattle.sealing.proofs.Selections.{chosen}
use Rattle.sealing.proofs.Choosing.{count-places}
use Rattle.sealing.proofs.Sent.{length-sent}

module _ (s : Set) (block : List ℕ) where
  pub places-rising : Rising (block_places s block)
  unfolding block_places
  places-rising = (chosen (has (take s.t (shuffled (drop s.k3 block) (s.n + s.w) s.t))) 0 (s.n + s.w)).rising

  pub places-below : (i : ℕ) → i < length (block_places s block) → get_or (block_places s block) i 0 < s.n + s.w
  unfolding block_places
  places-below i h = rw (zero-add (s.n + s.w)) at ((chosen (has (take s.t (shuffled (drop s.k3 block) (s.n + s.w) s.t))) 0 (s.n + s.w)).below i h)

  pub length-block_places : Valid s → length (block_places s block) ≡ s.t
  unfolding block_places
  length-block_places v = count-places (drop s.k3 block) (s.n + s.w) s.t (omega (arith, v.code))

pub length-ciphertext : (s : Set) → Valid s → (ge msg seed places : List ℕ) → length (ciphertext s ge msg seed places) ≡ s.cipher
unfolding ciphertext
length-ciphertext s v ge msg seed places =
    let x = take s.k (triple_elements s msg seed places) in
    length-packed s.m (sent s ge x places (error_values s msg seed places)) ∙ ap (bytes_for s.m) (length-sent s ge x places (error_values s msg seed places)) ∙ sym v.cipher_is

-- ---- a drawn block
module _ (s : Set) (v : Valid s) (msg block places els : List ℕ) (d : Drawn s msg block places els) where
  pub drawn-ready : Ready s places els
  unfolding triple_elements
  drawn-ready =
      record {
        rising = rw d.places_are (places-rising s block);
        placed = λ i h. rw d.places_are (places-below s block i (rw (length-block_places s block v) h));
        small = rw d.elements_are (elements-small s.m _);
      }

  pub drawn-sent : (key : List ℕ) → sent_by s key places els ≡ ciphertext s (public_ge s key) msg (block_seed s block) (block_places s block)
  unfolding ciphertext error_values
  drawn-sent key = rw (d.elements_are, d.places_are)
