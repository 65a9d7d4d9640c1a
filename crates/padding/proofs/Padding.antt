-- Unpadding takes padding back, and padding unpadding: a mask laid on twice is off again, and what the last byte's lost bits
-- were does not matter where they are cleared in the end.
use mathlib.Core.Path.{◌≡◌, sym, ap, ap₂, ◌∙◌}
use mathlib.Core.List.{List, ◌++◌}
use Prim.Native.Nat.{ℕ, ◌+◌, ◌<◌}
use native.Mathlib.Omega.{arith}
use lib.ListN.{length, take, drop, take-append-drop}
use lib.Seq.{take_at, drop_at}
use Rattle.sets.specs.declared.Set.{Set}
use Rattle.hash.specs.Mask.{mgf, xored}
use Rattle.hash.proofs.Laws.{length-xored, xored-twice}
use Rattle.scheme.specs.Padding.{lost_bits, cleared, padded_front, padded, seed_of, unmasked, message_of, Checks}
use Rattle.padding.proofs.Cleared.{length-cleared, cleared-cleared, cleared-under, cleared-after}
use Rattle.padding.proofs.Sizes.{length-padded_front, rest-length, length-seed_of}

-- ---- unpadding takes padding back, where the padded string's lost bits are read as zero

-- the padded string p unpads to the message msg, with the pad seed r
pub record Carries (s : Set) (p e0 msg r : List ℕ) : Type 0 where
  pub seed_is : seed_of s p ≡ r
  pub message_is : message_of s p e0 ≡ msg
  pub checks : Checks s p e0

module _ (s : Set) (msg seed e0 : List ℕ) (some : 0 < s.k3) (l : length msg ≡ s.k1) (k : length seed ≡ s.k3) where
  -- the padded string without its lost bits
  abbrev kept : List ℕ
  kept = cleared (lost_bits s) (padded s msg seed e0)

  abbrev r : List ℕ
  r = cleared (lost_bits s) seed

  abbrev front : List ℕ
  front = padded_front s msg r e0

  kept-is : kept ≡ front ++ cleared (lost_bits s) (xored r (mgf front s.k3))
  unfolding padded
  kept-is =
      let some₂ : 0 < length (xored r (mgf front s.k3)) = omega (arith, length-xored r (mgf front s.k3), length-cleared (lost_bits s) seed) in
      cleared-after (lost_bits s) front (xored r (mgf front s.k3)) some₂

  kept-front : take (s.k1 + s.k2) kept ≡ front
  kept-front =
      ap (take (s.k1 + s.k2)) kept-is
      ∙ take_at front (cleared (lost_bits s) (xored r (mgf front s.k3))) (s.k1 + s.k2) (length-padded_front s msg r e0 l)

  kept-rest : drop (s.k1 + s.k2) kept ≡ cleared (lost_bits s) (xored r (mgf front s.k3))
  kept-rest =
      ap (drop (s.k1 + s.k2)) kept-is
      ∙ drop_at front (cleared (lost_bits s) (xored r (mgf front s.k3))) (s.k1 + s.k2) (length-padded_front s msg r e0 l)

  seed-back : seed_of s kept ≡ cleared (lost_bits s) seed
  unfolding seed_of
  seed-back =
      let ν = lost_bits s in
      let m = mgf front s.k3 in
      ap₂ (λ (a b : List ℕ). cleared ν (xored b (mgf a s.k3))) kept-front kept-rest
      ∙ cleared-under ν (xored r m) m ∙ ap (cleared ν) (xored-twice r m) ∙ cleared-cleared ν seed

  unmasked-back : unmasked s kept e0 ≡ msg ++ mgf (msg ++ (r ++ e0)) s.k2
  unfolding unmasked padded_front
  unmasked-back =
      ap₂ (λ (a b : List ℕ). xored a (mgf (b ++ e0) (s.k1 + s.k2))) kept-front seed-back
      ∙ xored-twice (msg ++ mgf (msg ++ (r ++ e0)) s.k2) (mgf (r ++ e0) (s.k1 + s.k2))

  message-back : message_of s kept e0 ≡ msg
  unfolding message_of
  message-back = ap (take s.k1) unmasked-back ∙ take_at msg (mgf (msg ++ (r ++ e0)) s.k2) s.k1 l

  checks-back : Checks s kept e0
  unfolding Checks
  checks-back =
      ap (drop s.k1) unmasked-back ∙ drop_at msg (mgf (msg ++ (r ++ e0)) s.k2) s.k1 l
      ∙ sym (ap₂ (λ (a b : List ℕ). mgf (a ++ (b ++ e0)) s.k2) message-back seed-back)

  pub unpad-pad : Carries s (cleared (lost_bits s) (padded s msg seed e0)) e0 msg (cleared (lost_bits s) seed)
  unpad-pad = record { seed_is = seed-back; message_is = message-back; checks = checks-back }

-- no two messages, or pad seeds that differ before their forced bits, are padded to the same bits that are kept
pub padded-once : (s : Set) (msg seed msg' seed' e0 : List ℕ) → 0 < s.k3
    → length msg ≡ s.k1 → length seed ≡ s.k3 → length msg' ≡ s.k1 → length seed' ≡ s.k3
    → cleared (lost_bits s) (padded s msg seed e0) ≡ cleared (lost_bits s) (padded s msg' seed' e0)
    → (msg ≡ msg') × (cleared (lost_bits s) seed ≡ cleared (lost_bits s) seed')
padded-once s msg seed msg' seed' e0 some l k l' k' e =
    let h = unpad-pad s msg seed e0 some l k in
    let h' = unpad-pad s msg' seed' e0 some l' k' in (
      sym h.message_is ∙ ap (λ (p : List ℕ). message_of s p e0) e ∙ h'.message_is,
      sym h.seed_is ∙ ap (seed_of s) e ∙ h'.seed_is,
    )

-- ---- and padding takes unpadding back
module _ (s : Set) (p e0 : List ℕ) (some : 0 < s.k3) (l : length p ≡ s.k1 + s.k2 + s.k3) (zero : cleared (lost_bits s) p ≡ p) (checks : Checks s p e0) where
  again : unmasked s p e0 ≡ message_of s p e0 ++ mgf (message_of s p e0 ++ (seed_of s p ++ e0)) s.k2
  unfolding Checks message_of
  again = sym (take-append-drop s.k1 (unmasked s p e0)) ∙ ap (λ (x : List ℕ). message_of s p e0 ++ x) checks

  front-again : padded_front s (message_of s p e0) (seed_of s p) e0 ≡ take (s.k1 + s.k2) p
  unfolding padded_front unmasked
  front-again =
      let mask = mgf (seed_of s p ++ e0) (s.k1 + s.k2) in
      ap (λ (x : List ℕ). xored x mask) (sym again) ∙ xored-twice (take (s.k1 + s.k2) p) mask

  seed-again : cleared (lost_bits s) (seed_of s p) ≡ seed_of s p
  unfolding seed_of
  seed-again = cleared-cleared (lost_bits s) (xored (drop (s.k1 + s.k2) p) (mgf (take (s.k1 + s.k2) p) s.k3))

  padded-again : padded s (message_of s p e0) (seed_of s p) e0 ≡ take (s.k1 + s.k2) p ++ xored (seed_of s p) (mgf (take (s.k1 + s.k2) p) s.k3)
  unfolding padded
  padded-again =
      ap (λ (r : List ℕ). padded_front s (message_of s p e0) r e0 ++ xored r (mgf (padded_front s (message_of s p e0) r e0) s.k3)) seed-again
      ∙ ap (λ (a : List ℕ). a ++ xored (seed_of s p) (mgf a s.k3)) front-again

  pub pad-unpad : cleared (lost_bits s) (padded s (message_of s p e0) (seed_of s p) e0) ≡ p
  unfolding seed_of
  pad-unpad =
      let ν = lost_bits s in
      let a = take (s.k1 + s.k2) p in
      let b = drop (s.k1 + s.k2) p in
      let m = mgf a s.k3 in
      let some₁ : 0 < length (xored (seed_of s p) m) = omega (arith, length-xored (seed_of s p) m, length-seed_of s p l) in
      let some₂ : 0 < length b = omega (arith, rest-length s p l) in
      ap (cleared ν) padded-again ∙ cleared-after ν a (xored (seed_of s p) m) some₁
      ∙ ap (λ (x : List ℕ). a ++ x) (cleared-under ν (xored b m) m ∙ ap (cleared ν) (xored-twice b m))
      ∙ sym (cleared-after ν a b some₂) ∙ ap (cleared ν) (take-append-drop (s.k1 + s.k2) p) ∙ zero

-- the forced bits of the pad seed don't matter
pub padded-cleared : (s : Set) (msg seed e0 : List ℕ) → padded s msg (cleared (lost_bits s) seed) e0 ≡ padded s msg seed e0
unfolding padded
padded-cleared s msg seed e0 =
    ap (λ (r : List ℕ). padded_front s msg r e0 ++ xored r (mgf (padded_front s msg r e0) s.k3)) (cleared-cleared (lost_bits s) seed)
