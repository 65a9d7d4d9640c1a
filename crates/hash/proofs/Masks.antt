-- The mask of a seed: where each digest stands in it, and the loop that lays it over a slice, a digest a turn.
use Rattle.std.proofs.Common.{◌≡◌, ℕ, zero, suc, ◌+◌, ◌-◌, ◌*◌, ◌/◌, ◌<◌, ◌≤◌, List, [], ◌∷◌, ◌++◌, length, length-append, get_or, map, min, take, drop, take-append-drop, set, replicate, sym, refl, ap, ◌∙◌, ap₂, append_assoc, append-nil, add-zero, add-suc, arith, length-set, get_or-drop, get_or-take, drop-drop, take_at, get_or-append-add, drop_at}
use native.Mathlib.Decide.{dec_lt}
use Rattle.std.specs.List.{concat}
use Rattle.std.proofs.lemmas.List.{map-append, take_more}
use Rattle.std.proofs.lemmas.List.Folds.{concat-append}
use lib.Bits.{bit_xor, xor_zero_l}
use lib.ListN.{length-replicate, get_or-replicate, get_or-append}
use Rattle.lists.specs.Loops.{tab}
use Rattle.lists.specs.Parts.{part, put}
use Rattle.lists.proofs.Parts.{part_length, put-length}
use Rattle.lists.proofs.Tables.{length-tab, tab-ext, tab-get_or, tab-none, tab-more, tab-done}
use Rattle.hash.specs.Sha.{sha512}
use Rattle.hash.specs.Mask.{bytes4, stream, mgf, xored}
use Rattle.hash.proofs.Laws.{length-stream, length-mgf}

-- byte j of digest n stands at n * 64 + j
stream_at : (seed : List ℕ) (count n j : ℕ) → n < count → j < 64 → get_or (stream seed count) (n * 64 + j) 0 ≡ get_or (sha512 (seed ++ bytes4 n)) j 0
unfolding stream
stream_at seed zero n j h k = omega arith
stream_at seed (suc count) n j h k = go (stream_at seed count n j) (dec_lt n count)
  where
    go : (n < count → j < 64 → get_or (stream seed count) (n * 64 + j) 0 ≡ get_or (sha512 (seed ++ bytes4 n)) j 0) → Dec (n < count)
        → get_or (stream seed count ++ sha512 (seed ++ bytes4 count)) (n * 64 + j) 0 ≡ get_or (sha512 (seed ++ bytes4 n)) j 0
    go earlier (yes l) =
        get_or-append (stream seed count) (sha512 (seed ++ bytes4 count)) 0 (n * 64 + j) (omega (arith, length-stream seed count)) ∙ earlier l k
    go earlier (no g) =
        let e : n ≡ count = omega arith in
        let i : n * 64 + j ≡ length (stream seed count) + j = omega (arith, length-stream seed count) in
        ap (λ (x : ℕ). get_or (stream seed count ++ sha512 (seed ++ bytes4 count)) x 0) i
        ∙ get_or-append-add (stream seed count) (sha512 (seed ++ bytes4 count)) j 0
        ∙ ap (λ (x : ℕ). get_or (sha512 (seed ++ bytes4 x)) j 0) (sym e)

pub mgf-at : (seed : List ℕ) (len n j : ℕ) → n * 64 + j < len → j < 64 → get_or (mgf seed len) (n * 64 + j) 0 ≡ get_or (sha512 (seed ++ bytes4 n)) j 0
unfolding mgf
mgf-at seed len n j h k =
    get_or-take len (stream seed ((len + 63) / 64)) (n * 64 + j) 0 h ∙ stream_at seed ((len + 63) / 64) n j (omega arith) k

-- ---- a mask laid over a slice byte by byte: its first i bytes are done
abbrev pub over : List ℕ → List ℕ → ℕ → ℕ
over s mask i = bit_xor (get_or s i 0) (get_or mask i 0)

pub record Over (s₀ mask : List ℕ) (i : ℕ) (s : List ℕ) : Type 0 where
  pub long : length s ≡ length s₀
  pub is : s ≡ tab i (over s₀ mask) ++ drop i s₀

pub over_none : (s₀ mask : List ℕ) → Over s₀ mask 0 s₀
over_none s₀ mask = record { long = refl; is = tab-none (over s₀ mask) s₀ }

pub over_more : {s₀ mask s : List ℕ} {i : ℕ} → Over s₀ mask i s → i < length s → Over s₀ mask (i + 1) (set s i (bit_xor (get_or s i 0) (get_or mask i 0)))
over_more {s₀} {mask} {s} {i} o h =
    let f = over s₀ mask in
    let n : i ≡ length (tab i f) + 0 = omega (arith, length-tab i f) in
    let g : get_or s i 0 ≡ get_or s₀ i 0 =
    ap (λ (x : List ℕ). get_or x i 0) o.is ∙ ap (λ (k : ℕ). get_or (tab i f ++ drop i s₀) k 0) n ∙ get_or-append-add (tab i f) (drop i s₀) 0 0
    ∙ get_or-drop i s₀ 0 0 ∙ ap (λ (k : ℕ). get_or s₀ k 0) (add-zero i) in
    record {
      long = length-set s i (bit_xor (get_or s i 0) (get_or mask i 0)) ∙ o.long;
      is = tab-more f s₀ s i o.is o.long (bit_xor (get_or s i 0) (get_or mask i 0)) h (ap (λ (x : ℕ). bit_xor x (get_or mask i 0)) g);
    }

pub over_done : {s₀ mask s : List ℕ} {i : ℕ} → Over s₀ mask i s → i ≤ length s₀ → length s ≤ i → s ≡ xored s₀ mask
unfolding xored
over_done {s₀} {mask} {s} {i} o h g = tab-done (over s₀ mask) s₀ s i o.is o.long (length s₀) refl h g

-- ---- and part by part
tab-add : (f : ℕ → ℕ) (a k : ℕ) → tab a f ++ tab k (λ j. f (a + j)) ≡ tab (a + k) f
unfolding tab
tab-add f a zero = rw add-zero (append-nil (tab a f))
tab-add f a (suc k) = rw (add-suc, ← append_assoc (tab a f) (tab k (λ j. f (a + j))) (f (a + k) ∷ []), tab-add f a k)

pub over-part : {s₀ mask s p : List ℕ} {at : ℕ} (k : ℕ) (d : List ℕ) → Over s₀ mask at s → at + k ≤ length s₀
    → p ≡ xored (part at k s) d → ((j : ℕ) → j < k → get_or d j 0 ≡ get_or mask (at + j) 0)
    → Over s₀ mask (at + k) (put at k p s)
unfolding xored
over-part {s₀} {mask} {s} {p} {at} k d o fits pp same =
    let f = over s₀ mask in
    let l : length s ≡ length s₀ = o.long in
    let t : take at s ≡ tab at f = ap (take at) o.is ∙ take_at (tab at f) (drop at s₀) at (length-tab at f) in
    let u : drop at s ≡ drop at s₀ = ap (drop at) o.is ∙ drop_at (tab at f) (drop at s₀) at (length-tab at f) in
    let n : length (part at k s) ≡ k = part_length at k s (omega arith) in
    let each : (j : ℕ) → j < k → over (part at k s) d j ≡ f (at + j) =
    λ j h. ap₂ bit_xor (get_or-take k (drop at s) j 0 h ∙ ap (λ (x : List ℕ). get_or x j 0) u ∙ get_or-drop at s₀ j 0) (same j h) in
    let v : p ≡ tab k (λ j. f (at + j)) =
    pp ∙ ap (λ (x : ℕ). tab x (over (part at k s) d)) n ∙ tab-ext k (over (part at k s) d) (λ j. f (at + j)) each in
    let pl : length p ≡ k = ap length v ∙ length-tab k (λ j. f (at + j)) in
    record {
      long = put-length at k p s (omega arith) pl ∙ l;
      is =
          ap₂ ◌++◌ t (ap₂ ◌++◌ v (ap (drop k) u ∙ drop-drop k at s₀))
          ∙ sym (append_assoc (tab at f) (tab k (λ j. f (at + j))) (drop (at + k) s₀))
          ∙ ap (λ (x : List ℕ). x ++ drop (at + k) s₀) (tab-add f at k);
    }

-- the bytes of digest n that are wanted, which end at e
pub over_digest : {s₀ s p d : List ℕ} {e : ℕ} (seed : List ℕ) (n : ℕ) → 64 * n < length s₀ → e ≡ min (length s) (64 * n + 64)
    → d ≡ sha512 (seed ++ bytes4 n) → p ≡ xored (part (64 * n) (e - 64 * n) s) d
    → Over s₀ (mgf seed (length s₀)) (min (64 * n) (length s₀)) s
    → Over s₀ (mgf seed (length s₀)) (min (64 * (n + 1)) (length s₀)) (put (64 * n) (e - 64 * n) p s)
over_digest {s₀} {s} {p} {d} {e} seed n h end dp pp o =
    let len = length s₀ in
    let at : min (64 * n) len ≡ 64 * n = omega arith in
    let long : length s ≡ len = o.long in
    let next : 64 * n + (e - 64 * n) ≡ min (64 * (n + 1)) len = omega arith in
    let byte : (j : ℕ) → j < e - 64 * n → get_or d j 0 ≡ get_or (mgf seed len) (64 * n + j) 0 =
    λ j g.
    let place : n * 64 + j ≡ 64 * n + j = omega arith in
    ap (λ (x : List ℕ). get_or x j 0) dp ∙ sym (mgf-at seed len n j (omega arith) (omega arith))
    ∙ ap (λ (x : ℕ). get_or (mgf seed len) x 0) place in
    rw next at (over-part (e - 64 * n) d (rw at at o) (omega arith) pp byte)

pub over_digests : {s₀ s mask : List ℕ} (n : ℕ) → length s₀ ≤ 64 * n → Over s₀ mask (min (64 * n) (length s₀)) s → s ≡ xored s₀ mask
over_digests {s₀} {s} {mask} n h o = over_done o (omega arith) (omega (arith, o.long))

-- ---- a mask laid over zeros is the mask
pub over_zeros : (mask : List ℕ) (n : ℕ) → length mask ≡ n → xored (replicate n 0) mask ≡ mask
unfolding xored
over_zeros mask n e =
    let l : length (replicate {A = ℕ} n 0) ≡ n = length-replicate n 0 in
    ap (λ (x : ℕ). tab x (over (replicate n 0) mask)) l
    ∙ tab-ext n (over (replicate n 0) mask) (λ i. get_or mask i 0)
    (λ i h. ap (λ (x : ℕ). bit_xor x (get_or mask i 0)) (get_or-replicate n i 0 0 h) ∙ xor_zero_l (get_or mask i 0))
    ∙ ap (λ (x : ℕ). tab x (λ i. get_or mask i 0)) (sym e) ∙ sym (tab-get_or mask)

pub filled : {s₁ s₂ : List ℕ} (n : ℕ) (seed : List ℕ) → s₁ ≡ replicate n 0 → s₂ ≡ xored s₁ (mgf seed (length s₁)) → s₂ ≡ mgf seed n
filled {s₁} {s₂} n seed wiped e =
    let l : length s₁ ≡ n = ap length wiped ∙ length-replicate n 0 in
    e ∙ ap₂ (λ (x : List ℕ) (k : ℕ). xored x (mgf seed k)) wiped l ∙ over_zeros (mgf seed n) n (length-mgf seed n)

-- ---- a seed in parts
module _ {A : Type 0} (f : A → List ℕ) (parts : List A) where
  pub joined : (i : ℕ) (d : A) → i < length parts → concat (map f (take (i + 1) parts)) ≡ concat (map f (take i parts)) ++ f (get_or parts i d)
  joined i d h =
      ap (λ (l : List A). concat (map f l)) (take_more parts i d h)
      ∙ ap concat (map-append f (take i parts) (get_or parts i d ∷ []))
      ∙ concat-append (map f (take i parts)) (f (get_or parts i d) ∷ [])
      ∙ ap (λ (l : List ℕ). concat (map f (take i parts)) ++ l) (append-nil (f (get_or parts i d)))

  joined_le : (i : ℕ) → length (concat (map f (take i parts))) ≤ length (concat (map f parts))
  joined_le i =
      let whole : concat (map f parts) ≡ concat (map f (take i parts)) ++ concat (map f (drop i parts)) =
      ap (λ (l : List A). concat (map f l)) (sym (take-append-drop i parts)) ∙ ap concat (map-append f (take i parts) (drop i parts))
      ∙ concat-append (map f (take i parts)) (map f (drop i parts)) in
      omega (arith, ap length whole, length-append (concat (map f (take i parts))) (concat (map f (drop i parts))))

  pub joined_fits : (i : ℕ) (d : A) → i < length parts
      → length (concat (map f (take i parts))) + length (f (get_or parts i d)) ≤ length (concat (map f parts))
  joined_fits i d h =
      omega (arith, joined_le (i + 1), ap length (joined i d h), length-append (concat (map f (take i parts))) (f (get_or parts i d)))
