-- The laws that other crates cite: how long digests and masks are, that they are bytes, and that a mask laid twice is none.
use Rattle.std.proofs.Common.{◌≡◌, ℕ, zero, suc, ◌+◌, ◌*◌, ◌/◌, ◌<◌, List, [], ◌∷◌, ◌++◌, length, get_or, take, sym, refl, ap, ◌∙◌, arith, length-append, length-take-le}
use lib.Bits.{bit_xor, xor_lt}
use Rattle.lists.specs.Loops.{tab}
use Rattle.lists.proofs.Tables.{length-tab, get_or-tab, tab-ext, tab-get_or, all-tab}
use Rattle.hash.specs.declared.word.Words.{Words}
use Rattle.hash.specs.Sha.{bytes8, output, sha512}
use Rattle.hash.specs.Mask.{bytes4, stream, mgf, xored}
use Rattle.hash.proofs.Bitwise.{xor-twice}

-- ---- lengths
length-output : (s : Words) → length (output s) ≡ 64
unfolding output bytes8
length-output s = refl

pub length-sha512 : (m : List ℕ) → length (sha512 m) ≡ 64
unfolding sha512
length-sha512 m = length-output _

pub length-stream : (seed : List ℕ) (n : ℕ) → length (stream seed n) ≡ n * 64
unfolding stream
length-stream seed zero = refl
length-stream seed (suc n) =
    omega (arith, length-append (stream seed n) (sha512 (seed ++ bytes4 n)), length-stream seed n, length-sha512 (seed ++ bytes4 n))

pub length-mgf : (seed : List ℕ) (len : ℕ) → length (mgf seed len) ≡ len
unfolding mgf
length-mgf seed len = length-take-le len (stream seed ((len + 63) / 64)) (omega (arith, length-stream seed ((len + 63) / 64)))

pub length-xored : (s mask : List ℕ) → length (xored s mask) ≡ length s
unfolding xored
length-xored s mask = length-tab (length s) (λ i. bit_xor (get_or s i 0) (get_or mask i 0))

-- ---- bytes
record Bytes (l : List ℕ) : Type 0 where
  at : (i : ℕ) → get_or l i 0 < 256

bytes-none : Bytes []
bytes-none = record { at = λ i. omega arith }

bytes-more : {x : ℕ} {l : List ℕ} → x < 256 → Bytes l → Bytes (x ∷ l)
bytes-more {x} {l} h p = record { at = go }
  where
    go : (i : ℕ) → get_or (x ∷ l) i 0 < 256
    go zero = h
    go (suc i) = p.at i

bytes_rest : {x : ℕ} {l : List ℕ} → Bytes (x ∷ l) → Bytes l
bytes_rest p = record { at = λ i. p.at (suc i) }

bytes-append : (l : List ℕ) {m : List ℕ} → Bytes l → Bytes m → Bytes (l ++ m)
bytes-append [] p q = q
bytes-append (x ∷ l) p q = bytes-more (p.at 0) (bytes-append l (bytes_rest p) q)

bytes_take : (n : ℕ) (l : List ℕ) → Bytes l → Bytes (take n l)
bytes_take zero l p = bytes-none
bytes_take (suc n) [] p = bytes-none
bytes_take (suc n) (x ∷ l) p = bytes-more (p.at 0) (bytes_take n l (bytes_rest p))

word_byte : (x i : ℕ) → get_or (bytes8 x) i 0 < 256
unfolding bytes8
word_byte x zero = omega arith
word_byte x (suc zero) = omega arith
word_byte x (suc (suc zero)) = omega arith
word_byte x (suc (suc (suc zero))) = omega arith
word_byte x (suc (suc (suc (suc zero)))) = omega arith
word_byte x (suc (suc (suc (suc (suc zero))))) = omega arith
word_byte x (suc (suc (suc (suc (suc (suc zero)))))) = omega arith
word_byte x (suc (suc (suc (suc (suc (suc (suc zero))))))) = omega arith
word_byte x (suc (suc (suc (suc (suc (suc (suc (suc i)))))))) = omega arith

bytes_word : (x : ℕ) → Bytes (bytes8 x)
bytes_word x = record { at = word_byte x }

bytes-output : (s : Words) → Bytes (output s)
unfolding output
bytes-output s =
    bytes-append _ (bytes-append _ (bytes-append _ (bytes-append _ (bytes-append _ (bytes-append _ (bytes-append _ (bytes_word s.a) (bytes_word s.b)) (bytes_word s.c)) (bytes_word s.d)) (bytes_word s.e)) (bytes_word s.f)) (bytes_word s.g)) (bytes_word s.h)

bytes-sha512 : (m : List ℕ) → Bytes (sha512 m)
unfolding sha512
bytes-sha512 m = bytes-output _

bytes-stream : (seed : List ℕ) (n : ℕ) → Bytes (stream seed n)
unfolding stream
bytes-stream seed zero = bytes-none
bytes-stream seed (suc n) = bytes-append _ (bytes-stream seed n) (bytes-sha512 (seed ++ bytes4 n))

pub sha512-byte : (m : List ℕ) (i : ℕ) → get_or (sha512 m) i 0 < 256
sha512-byte m = (bytes-sha512 m).at

pub mgf-byte : (seed : List ℕ) (len i : ℕ) → get_or (mgf seed len) i 0 < 256
unfolding mgf
mgf-byte seed len = (bytes_take len _ (bytes-stream seed ((len + 63) / 64))).at

pub xored-byte : (s mask : List ℕ) → ((i : ℕ) → get_or s i 0 < 256) → ((i : ℕ) → get_or mask i 0 < 256) → (i : ℕ) → get_or (xored s mask) i 0 < 256
unfolding xored
xored-byte s mask p q =
    all-tab (λ (x : ℕ). x < 256) (length s) (λ i. bit_xor (get_or s i 0) (get_or mask i 0)) (omega arith) (λ i. xor_lt 8 (get_or s i 0) (get_or mask i 0) (p i) (q i))

-- ---- a mask laid twice is none
pub xored-twice : (s mask : List ℕ) → xored (xored s mask) mask ≡ s
unfolding xored
xored-twice s mask =
    let f : ℕ → ℕ = λ i. bit_xor (get_or s i 0) (get_or mask i 0) in
    let n : ℕ = length s in
    ap (λ (k : ℕ). tab k (λ i. bit_xor (get_or (tab n f) i 0) (get_or mask i 0))) (length-tab n f)
    ∙ tab-ext n (λ i. bit_xor (get_or (tab n f) i 0) (get_or mask i 0)) (λ i. get_or s i 0)
    (λ i h. ap (λ (x : ℕ). bit_xor x (get_or mask i 0)) (get_or-tab n f i h) ∙ xor-twice (get_or s i 0) (get_or mask i 0))
    ∙ sym (tab-get_or s)
