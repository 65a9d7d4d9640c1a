-- Keys that are written read back.
use mathlib.Core.Path.{◌≡◌, refl, sym, ap, ap₂, ◌∙◌}
use mathlib.Core.Bool.{true}
use mathlib.Core.List.{List, [], ◌∷◌, ◌++◌, append_assoc}
use Prim.Native.Nat.{ℕ, suc, ◌+◌, ◌*◌, ◌≤◌, ◌<◌}
use native.Mathlib.Omega.{arith}
use native.Mathlib.Nat.{mul-zero}
use lib.Seq.{ext_get_or, get_or-take, take_all, take_at, drop_at, length-take-le}
use lib.ListN.{length, get_or, take, drop, length-append, get_or-append}
use Rattle.lists.specs.Parts.{part}
use Rattle.bits.specs.Bits.{packed, elements_at, bytes_for, tail_zero, Small}
use Rattle.bits.specs.Numbers.{numbers16, bytes16}
use Rattle.bits.proofs.Packing.{length-packed, packed-tail, packed-back}
use Rattle.bits.proofs.Keys.{elements_at-append, packed-part}
use Rattle.bits.proofs.Sixteen.{length-numbers16, numbers16-at, length-bytes16, bytes16-high, bytes16-low}
use Rattle.sets.specs.declared.Set.{Set}
use Rattle.sets.specs.Valid.{Valid, key_elements}
use Rattle.scheme.specs.Keys.{Private, public_key, private_key, public_ge, read, lists_end}
use Rattle.demands.proofs.Only.{small-append}

module _ (s : Set) (ok : Valid s) where
  -- ---- the public key
  module _ (ge : List ℕ) (long : length ge ≡ key_elements s) (small : Small s.m ge) where
    pub public-long : length (public_key s ge) ≡ s.public
    unfolding public_key
    public-long = omega (arith, length-packed s.m ge ∙ ap (bytes_for s.m) long, ok.public_is)

    pub public-byte : get_or (public_key s ge) 0 0 ≡ s.byte
    unfolding public_key
    public-byte = refl

    pub public-back : public_ge s (public_key s ge) ≡ ge
    unfolding public_ge public_key
    public-back =
        elements_at-append (key_elements s) s.m (s.byte ∷ []) (packed s.m ge) 0 ∙ ap (λ (n : ℕ). elements_at n s.m (packed s.m ge) 0) (sym long)
        ∙ packed-back s.m ge small

  -- ---- the private key

  -- what is asked of its parts
  pub record Writable (κ : Private) : Type 0 where
    pub long1 : length κ.q1 ≡ s.n
    pub long2 : length κ.q2 ≡ s.n + s.w
    pub long3 : length κ.columns ≡ 2 * s.w
    pub long4 : length κ.inverses ≡ s.n
    pub long5 : length κ.ge ≡ key_elements s
    pub small1 : Small 16 κ.q1
    pub small2 : Small 16 κ.q2
    pub small3 : Small s.m κ.columns
    pub small4 : Small s.m κ.inverses
    pub small5 : Small s.m κ.ge

  -- numbers in front of other bytes
  numbers-front : (l rest : List ℕ) (n : ℕ) → length l ≡ n → Small 16 l → take n (numbers16 (bytes16 l ++ rest)) ≡ l
  numbers-front l rest n long small =
      let all : length (bytes16 l ++ rest) ≡ 2 * n + length rest = length-append (bytes16 l) rest ∙ omega (arith, length-bytes16 l) in
      let r : length (take n (numbers16 (bytes16 l ++ rest))) ≡ n = length-take-le n (numbers16 (bytes16 l ++ rest)) (omega (arith, length-numbers16 (bytes16 l ++ rest))) in
      ext_get_or 0 (take n (numbers16 (bytes16 l ++ rest))) l (r ∙ sym long)
      (λ i h. let g : i < n = omega arith in
      let h₀ : 2 * i < length (bytes16 l) = omega (arith, length-bytes16 l) in
      let h₁ : 2 * i + 1 < length (bytes16 l) = omega (arith, length-bytes16 l) in
      get_or-take n (numbers16 (bytes16 l ++ rest)) i 0 g ∙ numbers16-at (bytes16 l ++ rest) i (omega arith)
      ∙ rw (get_or-append (bytes16 l) rest 0 (2 * i) h₀, get_or-append (bytes16 l) rest 0 (2 * i + 1) h₁, bytes16-high, bytes16-low) (omega (arith, small i)))

  private-ext : (a b : Private) → a.q1 ≡ b.q1 → a.q2 ≡ b.q2 → a.columns ≡ b.columns → a.inverses ≡ b.inverses → a.ge ≡ b.ge → a ≡ b
  private-ext a b e1 e2 e3 e4 e5 i = record { q1 = e1 i; q2 = e2 i; columns = e3 i; inverses = e4 i; ge = e5 i }

  module _ (κ : Private) (w : Writable κ) where
    abbrev es : List ℕ
    es = κ.columns ++ (κ.inverses ++ κ.ge)

    abbrev front : List ℕ
    front = s.byte ∷ (bytes16 κ.q1 ++ bytes16 κ.q2)

    es-long : length es ≡ 2 * s.w + s.n + key_elements s
    es-long =
        length-append κ.columns (κ.inverses ++ κ.ge) ∙ omega (arith, length-append κ.inverses κ.ge, w.long3, w.long4, w.long5)

    es-small : Small s.m es
    es-small = small-append s.m κ.columns _ w.small3 (small-append s.m κ.inverses κ.ge w.small4 w.small5)

    front_long : length front ≡ lists_end s
    front_long =
        omega (arith, length-append (bytes16 κ.q1) (bytes16 κ.q2), length-bytes16 κ.q1, length-bytes16 κ.q2, w.long1, w.long2)

    key-is : private_key s κ ≡ front ++ packed s.m es
    unfolding private_key
    key-is =
        ap (λ (l : List ℕ). s.byte ∷ l) (sym (append_assoc (bytes16 κ.q1) (bytes16 κ.q2) (packed s.m es)))

    pub private-long : length (private_key s κ) ≡ s.private
    private-long =
        ap length key-is ∙ length-append front (packed s.m es) ∙ omega (arith, front_long, length-packed s.m es ∙ ap (bytes_for s.m) es-long, ok.private_is)

    pub private-byte : get_or (private_key s κ) 0 0 ≡ s.byte
    unfolding private_key
    private-byte = refl

    pub private-tail : tail_zero s.m (drop (lists_end s) (private_key s κ)) ≡ true
    private-tail = rw (key-is, drop_at front (packed s.m es) (lists_end s) front_long) (packed-tail s.m ok.narrow es)

    key-part : (at a k : ℕ) → at ≡ 8 * lists_end s + s.m * a → a + k ≤ length es → elements_at k s.m (private_key s κ) at ≡ part a k es
    key-part at a k e h =
        let q : at ≡ 8 * length front + s.m * a = omega (arith, front_long) in
        rw (key-is, q) (elements_at-append k s.m front (packed s.m es) (s.m * a)) ∙ packed-part s.m es es-small a k h

    first_back : take s.n (numbers16 (drop 1 (private_key s κ))) ≡ κ.q1
    unfolding private_key
    first_back = numbers-front κ.q1 (bytes16 κ.q2 ++ packed s.m es) s.n w.long1 w.small1

    second_back : take (s.n + s.w) (numbers16 (drop (1 + 2 * s.n) (private_key s κ))) ≡ κ.q2
    unfolding private_key
    second_back =
        let e : 1 + 2 * s.n ≡ suc (2 * s.n) = omega arith in
        rw (e, drop_at (bytes16 κ.q1) (bytes16 κ.q2 ++ packed s.m es) (2 * s.n) (length-bytes16 κ.q1 ∙ ap (λ (n : ℕ). 2 * n) w.long1))
        (numbers-front κ.q2 (packed s.m es) (s.n + s.w) w.long2 w.small2)

    -- what is read is what was written
    pub private-back : read s (private_key s κ) ≡ κ
    unfolding read
    private-back =
        private-ext _ κ first_back second_back
        (key-part (8 * lists_end s) 0 (2 * s.w) (omega (arith, mul-zero s.m)) (omega (arith, es-long)) ∙ take_at κ.columns _ (2 * s.w) w.long3)
        (key-part (8 * lists_end s + s.m * (2 * s.w)) (2 * s.w) s.n refl (omega (arith, es-long)) ∙ ap (take s.n) (drop_at κ.columns _ (2 * s.w) w.long3) ∙ take_at κ.inverses κ.ge s.n w.long4)
        (key-part (8 * lists_end s + s.m * (2 * s.w + s.n)) (2 * s.w + s.n) (key_elements s) refl (omega (arith, es-long)) ∙ ap (take (key_elements s)) rest ∙ take_all (key_elements s) κ.ge (omega (arith, w.long5)))
      where
        rest : drop (2 * s.w + s.n) es ≡ κ.ge
        rest =
            ap (drop (2 * s.w + s.n)) (sym (append_assoc κ.columns κ.inverses κ.ge))
            ∙ drop_at (κ.columns ++ κ.inverses) κ.ge (2 * s.w + s.n) (length-append κ.columns κ.inverses ∙ ap₂ ◌+◌ w.long3 w.long4)
