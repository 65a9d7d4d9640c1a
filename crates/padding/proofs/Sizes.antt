-- The padded string and what is read from it: how long each is, and that each is made of bytes.
use mathlib.Core.Path.{◌≡◌, ap, ap₂, ◌∙◌}
use mathlib.Core.List.{List, ◌++◌}
use Prim.Native.Nat.{ℕ, ◌+◌, ◌-◌, ◌≤◌, ◌<◌}
use native.Mathlib.Omega.{arith}
use native.Mathlib.Decide.{dec_lt}
use lib.ListN.{length, get_or, take, drop, length-append, length-take, length-drop, get_or-append, get_or-eq_default}
use lib.Seq.{length-take-le, get_or-take, get_or-drop, get_or-append-add}
use Rattle.sets.specs.declared.Set.{Set}
use Rattle.hash.specs.Mask.{mgf, xored}
use Rattle.hash.proofs.Laws.{length-mgf, length-xored, mgf-byte, xored-byte}
use Rattle.scheme.specs.Padding.{lost_bits, cleared, padded_front, padded, seed_of, unmasked, message_of}
use Rattle.padding.proofs.Cleared.{length-cleared, cleared-byte}

-- ---- bytes of a string and of its parts
bytes_take : (n : ℕ) (l : List ℕ) → ((i : ℕ) → get_or l i 0 < 256) → (i : ℕ) → get_or (take n l) i 0 < 256
bytes_take n l h i = at (dec_lt i n)
  where
    at : Dec (i < n) → get_or (take n l) i 0 < 256
    at (yes k) = rw (get_or-take n l i 0 k) (h i)
    at (no k) = let past : length (take n l) ≤ i = simp length-take (omega arith) in rw (get_or-eq_default (take n l) 0 past) (omega arith)

bytes-append : (a b : List ℕ) → ((i : ℕ) → get_or a i 0 < 256) → ((i : ℕ) → get_or b i 0 < 256) → (i : ℕ) → get_or (a ++ b) i 0 < 256
bytes-append a b h g i = at (dec_lt i (length a))
  where
    at : Dec (i < length a) → get_or (a ++ b) i 0 < 256
    at (yes k) = rw (get_or-append a b 0 i k) (h i)
    at (no k) =
        let q : i ≡ length a + (i - length a) = omega arith in
        rw (ap (λ (j : ℕ). get_or (a ++ b) j 0) q ∙ get_or-append-add a b (i - length a) 0) (g (i - length a))

-- ---- lengths
pub length-padded_front : (s : Set) (msg r e0 : List ℕ) → length msg ≡ s.k1 → length (padded_front s msg r e0) ≡ s.k1 + s.k2
unfolding padded_front
length-padded_front s msg r e0 l =
    length-xored (msg ++ mgf (msg ++ (r ++ e0)) s.k2) (mgf (r ++ e0) (s.k1 + s.k2))
    ∙ length-append msg (mgf (msg ++ (r ++ e0)) s.k2) ∙ ap₂ ◌+◌ l (length-mgf (msg ++ (r ++ e0)) s.k2)

pub length-padded : (s : Set) (msg seed e0 : List ℕ) → length msg ≡ s.k1 → length seed ≡ s.k3
    → length (padded s msg seed e0) ≡ s.k1 + s.k2 + s.k3
unfolding padded
length-padded s msg seed e0 l k =
    let r = cleared (lost_bits s) seed in
    let front = padded_front s msg r e0 in
    length-append front (xored r (mgf front s.k3))
    ∙ ap₂ ◌+◌ (length-padded_front s msg r e0 l) (length-xored r (mgf front s.k3) ∙ length-cleared (lost_bits s) seed ∙ k)

module _ (s : Set) (p : List ℕ) (l : length p ≡ s.k1 + s.k2 + s.k3) where
  pub front_length : length (take (s.k1 + s.k2) p) ≡ s.k1 + s.k2
  front_length = length-take-le (s.k1 + s.k2) p (omega arith)

  pub rest-length : length (drop (s.k1 + s.k2) p) ≡ s.k3
  rest-length = length-drop (s.k1 + s.k2) p ∙ omega arith

  pub length-seed_of : length (seed_of s p) ≡ s.k3
  unfolding seed_of
  length-seed_of =
      let front = take (s.k1 + s.k2) p in
      let rest = drop (s.k1 + s.k2) p in
      length-cleared (lost_bits s) (xored rest (mgf front s.k3)) ∙ length-xored rest (mgf front s.k3) ∙ rest-length

  pub length-unmasked : (e0 : List ℕ) → length (unmasked s p e0) ≡ s.k1 + s.k2
  unfolding unmasked
  length-unmasked e0 = length-xored (take (s.k1 + s.k2) p) (mgf (seed_of s p ++ e0) (s.k1 + s.k2)) ∙ front_length

  pub length-message_of : (e0 : List ℕ) → length (message_of s p e0) ≡ s.k1
  unfolding message_of
  length-message_of e0 = length-take-le s.k1 (unmasked s p e0) (omega (arith, length-unmasked e0))

-- ---- bytes
module _ (s : Set) (msg seed e0 : List ℕ) (msg-bytes : (i : ℕ) → get_or msg i 0 < 256) (seed-bytes : (i : ℕ) → get_or seed i 0 < 256) where
  pub padded-byte : (i : ℕ) → get_or (padded s msg seed e0) i 0 < 256
  unfolding padded padded_front
  padded-byte =
      let r = cleared (lost_bits s) seed in
      let check = mgf (msg ++ (r ++ e0)) s.k2 in
      let front = padded_front s msg r e0 in
      bytes-append front (xored r (mgf front s.k3))
      (xored-byte (msg ++ check) (mgf (r ++ e0) (s.k1 + s.k2)) (bytes-append msg check msg-bytes (mgf-byte (msg ++ (r ++ e0)) s.k2)) (mgf-byte (r ++ e0) (s.k1 + s.k2)))
      (xored-byte r (mgf front s.k3) (cleared-byte (lost_bits s) seed seed-bytes) (mgf-byte front s.k3))

module _ (s : Set) (p e0 : List ℕ) (bytes : (i : ℕ) → get_or p i 0 < 256) where
  pub seed_of-byte : (i : ℕ) → get_or (seed_of s p) i 0 < 256
  unfolding seed_of
  seed_of-byte =
      let front = take (s.k1 + s.k2) p in
      let rest = drop (s.k1 + s.k2) p in
      cleared-byte (lost_bits s) (xored rest (mgf front s.k3))
      (xored-byte rest (mgf front s.k3) (λ i. rw (get_or-drop (s.k1 + s.k2) p i 0) (bytes (s.k1 + s.k2 + i))) (mgf-byte front s.k3))

  pub message_of-byte : (i : ℕ) → get_or (message_of s p e0) i 0 < 256
  unfolding message_of unmasked
  message_of-byte =
      bytes_take s.k1 (unmasked s p e0)
      (xored-byte (take (s.k1 + s.k2) p) (mgf (seed_of s p ++ e0) (s.k1 + s.k2)) (bytes_take (s.k1 + s.k2) p bytes) (mgf-byte (seed_of s p ++ e0) (s.k1 + s.k2)))
