-- The chain of states over the blocks of a list: one more block, a longer list, and two runs one after the other.
use Rattle.std.proofs.Common.{◌≡◌, ℕ, zero, suc, ◌+◌, ◌-◌, ◌*◌, ◌≤◌, List, ◌++◌, length, take, drop, refl, ap₂, add-zero, add-suc, add-one, arith, length-drop, drop-drop}
use lib.Seq.{take-append-le, drop-append-le}
use Rattle.hash.specs.declared.word.Words.{Words}
use Rattle.hash.specs.Sha.{chain, compress}

pub chain-step : (s : Words) (p : List ℕ) (i : ℕ)
    → compress (chain s p i) (take (128 * i + 128 - 128 * i) (drop (128 * i) p)) ≡ chain s p (i + 1)
unfolding chain
chain-step s p i =
    let e : 128 * i + 128 - 128 * i ≡ 128 = omega arith in
    rw (e, add-one)

pub chain-append : (s : Words) (p q : List ℕ) (i : ℕ) → 128 * i ≤ length p → chain s (p ++ q) i ≡ chain s p i
unfolding chain
chain-append s p q zero h = refl
chain-append s p q (suc i) h =
    let h' : 128 * i ≤ length p = omega arith in
    let k : 128 ≤ length (drop (128 * i) p) = simp length-drop (omega arith) in
    ap₂ compress (chain-append s p q i h') (rw (drop-append-le, take-append-le))

pub chain_more : (s : Words) (p : List ℕ) (i j : ℕ) → chain (chain s p i) (drop (128 * i) p) j ≡ chain s p (i + j)
unfolding chain
chain_more s p i zero = rw add-zero
chain_more s p i (suc j) =
    let e : 128 * i + 128 * j ≡ 128 * (i + j) = omega arith in
    rw (add-suc, drop-drop, e, chain_more s p i j)

pub chain-suc : (s : Words) (p : List ℕ) (i : ℕ) → compress (chain s p i) (take 128 (drop (128 * i) p)) ≡ chain s p (suc i)
unfolding chain
chain-suc s p i = refl
