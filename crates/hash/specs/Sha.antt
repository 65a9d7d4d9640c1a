-- FIPS 180-4: padding (5.1.2), message schedule and rounds (6.4.2), and the digest of a message, a list of bytes.
use Rattle.std.specs.Prelude.{ℕ, zero, suc, ◌+◌, ◌-◌, ◌*◌, ◌/◌, ◌%◌, ◌^◌, List, [], ◌∷◌, ◌++◌, length, take, drop, replicate, nat_lt, slice_index}
use Rattle.lists.specs.Loops.{pick}
use Rattle.hash.specs.declared.word.Words.{Words}
use Rattle.hash.specs.Word.{add, ch, maj, bsig0, bsig1, ssig0, ssig1}
use Rattle.hash.specs.Constants.{k_table, initial}

-- 3.1: the word of 64 bits whose eight bytes stand from i on, the most significant first
unfoldable pub word : List ℕ → ℕ → ℕ
word b i =
    slice_index b i * 2 ^ 56 + slice_index b (i + 1) * 2 ^ 48 + slice_index b (i + 2) * 2 ^ 40 + slice_index b (i + 3) * 2 ^ 32
    + slice_index b (i + 4) * 2 ^ 24 + slice_index b (i + 5) * 2 ^ 16 + slice_index b (i + 6) * 2 ^ 8 + slice_index b (i + 7)

-- 3.1: the eight bytes of a word, the most significant first
unfoldable pub bytes8 : ℕ → List ℕ
bytes8 x =
    x / 2 ^ 56 % 256 ∷ x / 2 ^ 48 % 256 ∷ x / 2 ^ 40 % 256 ∷ x / 2 ^ 32 % 256 ∷ x / 2 ^ 24 % 256 ∷ x / 2 ^ 16 % 256 ∷ x / 2 ^ 8 % 256 ∷ x % 256 ∷ []

-- 5.1.2: the length in bits of a message of n bytes, as a block of 128 bits
unfoldable pub bits16 : ℕ → List ℕ
bits16 n = bytes8 (n * 8 / 2 ^ 64) ++ bytes8 (n * 8 % 2 ^ 64)

-- 5.1.2: the fewest zero bytes after n bytes and the byte 0x80 that leave 16 bytes to a multiple of 128
unfoldable pub zeros : ℕ → ℕ
zeros n = (128 + 111 - n % 128) % 128

-- 5.1.2: the message, a bit 1 (and seven bits 0), zeros, the length in bits
unfoldable pub pad : List ℕ → List ℕ
pad m = (m ++ 0x80 ∷ replicate (zeros (length m)) 0) ++ bits16 (length m)

-- 6.4.2, 1: W t for t from 16 on, where w holds W 0 .. W (t - 1): σ1 (W (t - 2)) + W (t - 7) + σ0 (W (t - 15)) + W (t - 16)
unfoldable pub extend : List ℕ → ℕ → ℕ
extend w t = add (add (add (ssig1 (slice_index w (t - 2))) (slice_index w (t - 7))) (ssig0 (slice_index w (t - 15)))) (slice_index w (t - 16))

-- 6.4.2, 1: W t, for t below 16 a word of the block b
unfoldable pub w_next : List ℕ → List ℕ → ℕ → ℕ
w_next b w t = pick (nat_lt t 16) (word b (t * 8)) (extend w t)

-- 6.4.2, 1: the schedule's first words, W 0 .. W (t - 1)
unfoldable pub schedule : List ℕ → ℕ → List ℕ
schedule b zero = []
schedule b (suc t) = schedule b t ++ (w_next b (schedule b t) t ∷ [])

-- 6.4.2, 3: T1 = h + Σ1 (e) + Ch (e, f, g) + K t + W t
unfoldable pub t1 : Words → ℕ → ℕ → ℕ
t1 s k w = add (add (add (add s.h (bsig1 s.e)) (ch s.e s.f s.g)) k) w

-- 6.4.2, 3: T2 = Σ0 (a) + Maj (a, b, c)
unfoldable pub t2 : Words → ℕ
t2 s = add (bsig0 s.a) (maj s.a s.b s.c)

-- 6.4.2, 3: the working variables after a round with K t = k and W t = w
unfoldable pub round : Words → ℕ → ℕ → Words
round s k w =
    record { a = add (t1 s k w) (t2 s); b = s.a; c = s.b; d = s.c; e = add s.d (t1 s k w); f = s.e; g = s.f; h = s.g }

-- 6.4.2, 3: the rounds 0 .. t - 1 with the schedule w
unfoldable pub rounds : Words → List ℕ → ℕ → Words
rounds s w zero = s
rounds s w (suc t) = round (rounds s w t) (slice_index k_table t) (slice_index w t)

-- 6.4.2, 4: the sums, word by word
unfoldable pub plus : Words → Words → Words
plus x y =
    record { a = add x.a y.a; b = add x.b y.b; c = add x.c y.c; d = add x.d y.d; e = add x.e y.e; f = add x.f y.f; g = add x.g y.g; h = add x.h y.h }

-- 6.4.2, 1 to 4: the hash value after the block b, from the one before it
unfoldable pub compress : Words → List ℕ → Words
compress s b = plus s (rounds s (schedule b 80) 80)

-- 6.4.2: H (i) over the blocks of 128 bytes of p, from H (0) = s
unfoldable pub chain : Words → List ℕ → ℕ → Words
chain s p zero = s
chain s p (suc i) = compress (chain s p i) (take 128 (drop (128 * i) p))

-- 6.4.2: a hash value as 64 bytes
unfoldable pub output : Words → List ℕ
output s =
    bytes8 s.a ++ bytes8 s.b ++ bytes8 s.c ++ bytes8 s.d ++ bytes8 s.e ++ bytes8 s.f ++ bytes8 s.g ++ bytes8 s.h

-- 6.4: the digest of the message m
unfoldable pub sha512 : List ℕ → List ℕ
sha512 m = output (chain initial (pad m) (length (pad m) / 128))
