-- What the code's steps leave is what the definitions say, and unpadding has one answer.
use mathlib.Core.Path.{◌≡◌, refl, sym, ap, ◌∙◌}
use mathlib.Core.List.{List, [], ◌++◌, append-nil}
use Prim.Native.Nat.{ℕ, ◌+◌, ◌<◌}
use native.Mathlib.Omega.{arith}
use lib.ListN.{length, take, drop, replicate, length-drop, take-append-drop}
use Rattle.sets.specs.declared.Set.{Set}
use Rattle.hash.specs.Mask.{mgf, xored}
use Rattle.hash.proofs.Laws.{length-mgf, length-xored}
use Rattle.scheme.specs.Padding.{lost_bits, cleared, padded_front, padded, seed_of, unmasked, message_of, Checks}
use Rattle.std.specs.Prelude.{Result, Ok, Err, fold}
use lib.Bits.{bit_or}
use Rattle.padding.specs.declared.WrongCheck.{WrongCheck}
use Rattle.padding.specs.Steps.{check_masked, front_masked, seed_masked, stripped}
use Rattle.padding.specs.Unpads.{Unpads}
use Rattle.padding.proofs.Xored.{xored-zeros, xored-self}
use Rattle.padding.proofs.Cleared.{cleared-after}
use Rattle.padding.proofs.Steps.{seed-of, front_of, check-of}
use Rattle.padding.proofs.Gather.{gather-only, gather_none}
use Rattle.padding.proofs.Sizes.{front_length, rest-length, length-unmasked, length-message_of}

-- ---- padding, part by part: the numbers are the lengths that the code finds
pub padded_parts : (s : Set) (msg seed e0 : List ℕ) {m b r check front last : List ℕ} {ν k₂ f k₃ : ℕ}
    → m ≡ msg → b ≡ seed → ν ≡ lost_bits s → r ≡ cleared ν b
    → check ≡ mgf (m ++ (r ++ (e0 ++ []))) k₂ → k₂ ≡ s.k2
    → front ≡ xored (m ++ check) (mgf (r ++ (e0 ++ [])) f) → f ≡ s.k1 + s.k2
    → last ≡ xored r (mgf (front ++ []) k₃) → k₃ ≡ s.k3
    → front ++ last ≡ padded s msg seed e0
unfolding padded padded_front
padded_parts s msg seed e0 {m} {b} {r} {check} {front} {last} {ν} {k₂} {f} {k₃} mp bp νp rp cp k₂p fp fl lp k₃p =
    cc (append-nil e0, append-nil front)

-- ---- unpadding is its steps
abbrev stripped_of : Set → List ℕ → List ℕ → List ℕ
stripped_of s p e0 = stripped s.k1 s.k2 (lost_bits s) e0 p

-- what the check bytes should be
abbrev check_of : Set → List ℕ → List ℕ → List ℕ
check_of s p e0 = mgf (message_of s p e0 ++ (seed_of s p ++ e0)) s.k2

module _ (s : Set) (p e0 : List ℕ) (l : length p ≡ s.k1 + s.k2 + s.k3) (some : 0 < s.k3) where
  whole : message_of s p e0 ++ drop s.k1 (unmasked s p e0) ≡ unmasked s p e0
  unfolding message_of
  whole = take-append-drop s.k1 (unmasked s p e0)

  check-length : length (drop s.k1 (unmasked s p e0)) ≡ s.k2
  check-length = length-drop s.k1 (unmasked s p e0) ∙ omega (arith, length-unmasked s p l e0)

  pub stripped-is : stripped_of s p e0
      ≡ (message_of s p e0 ++ xored (drop s.k1 (unmasked s p e0)) (check_of s p e0)) ++ seed_of s p
  unfolding stripped seed_of unmasked
  stripped-is =
      let f = s.k1 + s.k2 in
      let a = take f p in
      let b = drop f p in
      let σ = seed_of s p in
      let x = xored b (mgf a s.k3) in
      let rest : 0 < length x = omega (arith, length-xored b (mgf a s.k3), rest-length s p l) in
      let e₁ : seed_masked f p ≡ a ++ x =
      ap (seed_masked f) (sym (take-append-drop f p)) ∙ seed-of f a b (front_length s p l)
      ∙ ap (λ (i : ℕ). a ++ xored b (mgf a i)) (rest-length s p l) in
      let e₂ : cleared (lost_bits s) (seed_masked f p) ≡ a ++ σ = ap (cleared (lost_bits s)) e₁ ∙ cleared-after (lost_bits s) a x rest in
      let e₃ : front_masked f e0 (cleared (lost_bits s) (seed_masked f p)) ≡ unmasked s p e0 ++ σ =
      ap (front_masked f e0) e₂ ∙ front_of f e0 a σ (front_length s p l) in
      ap (check_masked s.k1 s.k2 e0) (e₃ ∙ ap (λ (u : List ℕ). u ++ σ) (sym whole))
      ∙ check-of s.k1 s.k2 e0 (message_of s p e0) (drop s.k1 (unmasked s p e0)) σ (length-message_of s p l e0) check-length

  -- the same, part by part: the numbers are the lengths that the code finds
  module _ {a b x σ u m d c : List ℕ} {ν k₃ f k₂ : ℕ}
      (a-is : a ≡ take (s.k1 + s.k2) p) (b-is : b ≡ drop (s.k1 + s.k2) p)
      (xp : x ≡ xored b (mgf (a ++ []) k₃)) (k₃p : k₃ ≡ s.k3)
      (νp : ν ≡ lost_bits s) (σp : σ ≡ cleared ν x)
      (up : u ≡ xored a (mgf (σ ++ (e0 ++ [])) f)) (fp : f ≡ s.k1 + s.k2)
      (mp : m ≡ take s.k1 u) (dp : d ≡ drop s.k1 u)
      (cp : c ≡ xored d (mgf (m ++ (σ ++ (e0 ++ []))) k₂)) (k₂p : k₂ ≡ s.k2) where
    seed-part : σ ≡ seed_of s p
    unfolding seed_of
    seed-part = cc (append-nil a)

    front-part : u ≡ unmasked s p e0
    unfolding unmasked
    front-part = cc (seed-part, append-nil e0)

    pub message-part : m ≡ message_of s p e0
    unfolding message_of
    message-part = mp ∙ ap (take s.k1) front-part

    check-part : c ≡ xored (drop s.k1 (unmasked s p e0)) (check_of s p e0)
    check-part = cc (seed-part, front-part, message-part, append-nil e0)

    pub stripped_parts : (m ++ c) ++ σ ≡ stripped_of s p e0
    stripped_parts = cc (seed-part, message-part, check-part, stripped-is)

    -- the check bytes' differences are all zero where they are right, and only there
    pub checks-right : fold bit_or 0 c ≡ 0 → Checks s p e0
    unfolding Checks
    checks-right z =
        let w = drop s.k1 (unmasked s p e0) in
        let v = check_of s p e0 in
        let q : fold bit_or 0 (xored w v) ≡ 0 = ap (fold bit_or 0) (sym check-part) ∙ z in
        xored-zeros w v (length-mgf (message_of s p e0 ++ (seed_of s p ++ e0)) s.k2 ∙ sym check-length)
        (gather-only (xored w v) q ∙ ap (λ (i : ℕ). replicate i 0) (length-xored w v))

    pub checks-wrong : (fold bit_or 0 c ≡ 0 → ⊥) → Checks s p e0 → ⊥
    unfolding Checks
    checks-wrong z q =
        let w = drop s.k1 (unmasked s p e0) in
        z (ap (fold bit_or 0) (check-part ∙ ap (xored w) (sym q))
        ∙ gather_none (xored w w) (xored-self w ∙ ap (λ (i : ℕ). replicate i 0) (sym (length-xored w w))))

-- ---- no two answers to one padded string
pub unpads-once : (s : Set) (p e0 before : List ℕ) (a b : Result (Unit {0}) WrongCheck) (x y : List ℕ)
    → Unpads s p e0 before a x → Unpads s p e0 before b y → (a ≡ b) × (x ≡ y)
unpads-once s p e0 before (Ok _) (Ok _) x y u w = (refl, u.1 ∙ sym w.1)
unpads-once s p e0 before (Ok _) (Err _) x y u w = absurd (w.0 u.0)
unpads-once s p e0 before (Err _) (Ok _) x y u w = absurd (u.0 w.0)
unpads-once s p e0 before (Err _) (Err _) x y u w = (refl, u.1 ∙ sym w.1)
