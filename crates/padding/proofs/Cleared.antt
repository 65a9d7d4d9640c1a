-- Laws of a string whose last bits are cleared.
use mathlib.Core.Path.{◌≡◌, sym, ap, ◌∙◌}
use mathlib.Core.Logic.{◌≢◌}
use mathlib.Core.List.{List, [], ◌∷◌, ◌++◌}
use Prim.Native.Nat.{ℕ, ◌+◌, ◌-◌, ◌*◌, ◌/◌, ◌%◌, ◌^◌, ◌≤◌, ◌<◌}
use native.Mathlib.Nat.{zero-add, suc-add, mul-div_cancel, mod-eq_of_lt, div-mul-le_self, lt_of_le_of_lt}
use lib.Pow.{pow_pos}
use native.Mathlib.Omega.{arith}
use native.Mathlib.Decide.{ℕ_discrete, dec_lt}
use lib.Bits.{bit_xor, xor_shr}
use lib.ListN.{length, get_or, set, length-set, length-append, get_or-eq_default}
use lib.Seq.{ext_get_or, get_or-set_same, get_or-set_other, get_or-append-add}
use Rattle.hash.specs.Mask.{xored}
use Rattle.hash.proofs.Laws.{length-xored}
use Rattle.scheme.specs.Padding.{cleared}
use Rattle.padding.proofs.Xored.{xored-at}

pub length-cleared : (ν : ℕ) (r : List ℕ) → length (cleared ν r) ≡ length r
unfolding cleared
length-cleared ν r = length-set r (length r - 1) (get_or r (length r - 1) 0 / 2 ^ ν * 2 ^ ν)

module _ (ν : ℕ) (r : List ℕ) where
  pub cleared-last : (i : ℕ) → i + 1 ≡ length r → get_or (cleared ν r) i 0 ≡ get_or r i 0 / 2 ^ ν * 2 ^ ν
  unfolding cleared
  cleared-last i e =
      let q : length r - 1 ≡ i = omega arith in
      let h : i < length r = omega arith in
      rw q (get_or-set_same r i (get_or r i 0 / 2 ^ ν * 2 ^ ν) 0 h)

  pub cleared-other : (i : ℕ) → (i + 1 ≡ length r → ⊥) → i < length r → get_or (cleared ν r) i 0 ≡ get_or r i 0
  unfolding cleared
  cleared-other i n h =
      let d : i ≢ length r - 1 = λ e. n (omega arith) in
      get_or-set_other r (length r - 1) i (get_or r (length r - 1) 0 / 2 ^ ν * 2 ^ ν) 0 d

-- two strings with the same bytes but for the last, and the last byte's kept bits the same
cleared-ext : (ν : ℕ) (a b : List ℕ) → length a ≡ length b
    → ((i : ℕ) → i < length a → (i + 1 ≡ length a → ⊥) → get_or a i 0 ≡ get_or b i 0)
    → ((i : ℕ) → i + 1 ≡ length a → get_or a i 0 / 2 ^ ν ≡ get_or b i 0 / 2 ^ ν)
    → cleared ν a ≡ cleared ν b
cleared-ext ν a b e other last =
    ext_get_or 0 (cleared ν a) (cleared ν b) (length-cleared ν a ∙ e ∙ sym (length-cleared ν b))
    (λ i h. at i (omega (arith, length-cleared ν a)) (ℕ_discrete (i + 1) (length a)))
  where
    at : (i : ℕ) → i < length a → Dec (i + 1 ≡ length a) → get_or (cleared ν a) i 0 ≡ get_or (cleared ν b) i 0
    at i h (yes l) =
        cleared-last ν a i l ∙ ap (λ (x : ℕ). x * 2 ^ ν) (last i l) ∙ sym (cleared-last ν b i (l ∙ e))
    at i h (no n) =
        let n₂ : i + 1 ≡ length b → ⊥ = λ q. n (q ∙ sym e) in
        let h₂ : i < length b = omega arith in
        cleared-other ν a i n h ∙ other i h n ∙ sym (cleared-other ν b i n₂ h₂)

kept : (ν x : ℕ) → x / 2 ^ ν * 2 ^ ν / 2 ^ ν ≡ x / 2 ^ ν
kept ν x = mul-div_cancel (x / 2 ^ ν) (pow_pos ν)

pub cleared-cleared : (ν : ℕ) (r : List ℕ) → cleared ν (cleared ν r) ≡ cleared ν r
cleared-cleared ν r =
    let l : length (cleared ν r) ≡ length r = length-cleared ν r in
    cleared-ext ν (cleared ν r) r l
    (λ i h n. cleared-other ν r i (λ q. n (q ∙ sym l)) (omega arith))
    (λ i q. ap (λ (x : ℕ). x / 2 ^ ν) (cleared-last ν r i (q ∙ l)) ∙ kept ν (get_or r i 0))

-- bits that are cleared in the end need not be there before a mask is laid on
pub cleared-under : (ν : ℕ) (x m : List ℕ) → cleared ν (xored (cleared ν x) m) ≡ cleared ν (xored x m)
cleared-under ν x m =
    let y = cleared ν x in
    let l : length y ≡ length x = length-cleared ν x in
    let k : length (xored y m) ≡ length y = length-xored y m in
    cleared-ext ν (xored y m) (xored x m) (k ∙ l ∙ sym (length-xored x m))
    (λ i h n.
    let h₁ : i < length y = omega arith in
    let h₂ : i < length x = omega arith in
    xored-at y m i h₁ ∙ ap (λ (v : ℕ). bit_xor v (get_or m i 0)) (cleared-other ν x i (λ q. n (q ∙ sym (k ∙ l))) h₂) ∙ sym (xored-at x m i h₂))
    (λ i q.
    let h₁ : i < length y = omega arith in
    let h₂ : i < length x = omega arith in
    ap (λ (v : ℕ). v / 2 ^ ν) (xored-at y m i h₁ ∙ ap (λ (v : ℕ). bit_xor v (get_or m i 0)) (cleared-last ν x i (q ∙ k ∙ l)))
    ∙ xor_shr (get_or x i 0 / 2 ^ ν * 2 ^ ν) (get_or m i 0) ν
    ∙ ap (λ (v : ℕ). bit_xor v (get_or m i 0 / 2 ^ ν)) (kept ν (get_or x i 0))
    ∙ sym (xor_shr (get_or x i 0) (get_or m i 0) ν)
    ∙ ap (λ (v : ℕ). v / 2 ^ ν) (sym (xored-at x m i h₂)))

-- the last byte is the last part's
set_after : (a b : List ℕ) (i v : ℕ) → set (a ++ b) (length a + i) v ≡ a ++ set b i v
set_after [] b i v = ap (λ (n : ℕ). set b n v) (zero-add i)
set_after (x ∷ a) b i v = ap (λ (n : ℕ). set (x ∷ a ++ b) n v) (suc-add (length a) i) ∙ ap (λ (l : List ℕ). x ∷ l) (set_after a b i v)

pub cleared-after : (ν : ℕ) (a b : List ℕ) → 0 < length b → cleared ν (a ++ b) ≡ a ++ cleared ν b
unfolding cleared
cleared-after ν a b h =
    let e : length (a ++ b) - 1 ≡ length a + (length b - 1) = omega (arith, length-append a b) in
    rw (e, get_or-append-add a b (length b - 1) 0) (set_after a b (length b - 1) (get_or b (length b - 1) 0 / 2 ^ ν * 2 ^ ν))

-- what the code stores: a byte loses nothing at its other end
pub clear_step : (ν : ℕ) (p : List ℕ) → get_or p (length p - 1) 0 < 256
    → set p (length p - 1) (get_or p (length p - 1) 0 / 2 ^ ν * 2 ^ ν % 256) ≡ cleared ν p
unfolding cleared
clear_step ν p h =
    let x = get_or p (length p - 1) 0 in
    ap (set p (length p - 1)) (mod-eq_of_lt (lt_of_le_of_lt (div-mul-le_self x (2 ^ ν)) h))

-- what is cleared of a byte is no more than the byte
pub cleared-byte : (ν : ℕ) (r : List ℕ) → ((i : ℕ) → get_or r i 0 < 256) → (i : ℕ) → get_or (cleared ν r) i 0 < 256
cleared-byte ν r bytes i = at (ℕ_discrete (i + 1) (length r)) (dec_lt i (length r))
  where
    at : Dec (i + 1 ≡ length r) → Dec (i < length r) → get_or (cleared ν r) i 0 < 256
    at (yes l) d = rw (cleared-last ν r i l) (lt_of_le_of_lt (div-mul-le_self (get_or r i 0) (2 ^ ν)) (bytes i))
    at (no n) (yes h) = rw (cleared-other ν r i n h) (bytes i)
    at (no n) (no h) =
        let past : length (cleared ν r) ≤ i = omega (arith, length-cleared ν r) in
        rw (get_or-eq_default (cleared ν r) 0 past) (omega arith)
