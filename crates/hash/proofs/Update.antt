-- What a part does to what is held of a message: it stays within the block that is begun, or completes it.
use Rattle.std.proofs.Common.{◌≡◌, ℕ, suc, ◌+◌, ◌-◌, ◌*◌, ◌/◌, ◌%◌, ◌<◌, ◌≤◌, List, ◌++◌, length, take, drop, refl, sym, ap, ◌∙◌, ap₂, append-nil, arith, length-append, length-drop, length-take-le, drop-drop}
use lib.Seq.{drop-append-le, take-append-add, drop-append-add}
use Rattle.std.proofs.lemmas.List.{drop_all}
use Rattle.std.proofs.lemmas.Slice.{take-put_mid}
use Rattle.lists.specs.Parts.{put}
use Rattle.lists.proofs.Parts.{put-length}
use Rattle.hash.specs.declared.word.Words.{Words}
use Rattle.hash.specs.Constants.{initial}
use Rattle.hash.specs.Sha.{chain, compress}
use Rattle.hash.specs.Held.{Holds}
use Rattle.hash.proofs.Chain.{chain-append, chain_more, chain-suc}

module _ (st : Words) (d : List ℕ) (len : ℕ) (s : List ℕ) where
  abbrev Before : List ℕ → Type 0
  Before m = Holds (record { state = st; rest = d; len = len }) m

  pub few : {e : List ℕ} → length s < 128 - len % 128 → e ≡ put (len % 128) (length s) s d
      → (m : List ℕ) → Before m → Holds (record { state = st; rest = e; len = len + length s }) (m ++ s)
  few {e} h p m k =
      let l : len ≡ length m = k.len_is in
      let a : length (m ++ s) ≡ length m + length s = length-append m s in
      let q : length (m ++ s) / 128 ≡ length m / 128 = omega arith in
      let r : length (m ++ s) % 128 ≡ len % 128 + length s = omega arith in
      let n : length m % 128 ≡ len % 128 = omega arith in
      let f : 128 * (length m / 128) ≤ length m = omega arith in
      record {
        state_is = k.state_is ∙ sym (chain-append initial m s (length m / 128) f) ∙ ap (chain initial (m ++ s)) (sym q);
        rest_is =
            ap₂ take r p ∙ take-put_mid (len % 128) (length s) d s (len % 128 + length s) refl (omega (arith, k.rest_long))
            ∙ ap (λ (x : List ℕ). x ++ s) (ap (λ (x : ℕ). take x d) (sym n) ∙ k.rest_is)
            ∙ sym (ap (λ (x : ℕ). drop (128 * x) (m ++ s)) q ∙ drop-append-le (128 * (length m / 128)) m s f);
        rest_long = ap length p ∙ put-length (len % 128) (length s) s d (omega (arith, k.rest_long)) refl ∙ k.rest_long;
        len_is = omega arith;
      }

  pub many : {f t u e : List ℕ} {a b : Words} → 128 - len % 128 ≤ length s
      → f ≡ put (len % 128) (128 - len % 128) (take (128 - len % 128) s) d
      → a ≡ compress st f
      → t ≡ drop (128 - len % 128) s
      → b ≡ chain a t (length t / 128)
      → u ≡ drop (length t / 128 * 128) t
      → e ≡ put 0 (length u) u f
      → (m : List ℕ) → Before m → Holds (record { state = b; rest = e; len = len + length s }) (m ++ s)
  many {f} {t} {u} {e} {a} {b} h fp ap' tp bp up ep m hm =
      let k : ℕ = 128 - len % 128 in
      let q : ℕ = length m / 128 in
      let j : ℕ = length t / 128 in
      let p : List ℕ = m ++ s in
      let x : List ℕ = drop (128 * q) m in
      let l : len ≡ length m = hm.len_is in
      let w : length d ≡ 128 = hm.rest_long in
      let lp : length p ≡ length m + length s = length-append m s in
      let n : length m % 128 ≡ len % 128 = omega arith in
      let mq : 128 * q ≤ length m = omega arith in
      let lx : length x ≡ len % 128 = length-drop (128 * q) m ∙ omega arith in
      let lk : length (take k s) ≡ k = length-take-le k s h in
      let full : 128 ≡ length x + k = omega arith in
      -- the block that is completed
      let front : take (len % 128) d ≡ x = ap (λ (y : ℕ). take y d) (sym n) ∙ hm.rest_is in
      let fx : f ≡ x ++ take k s =
      fp ∙ ap₂ ◌++◌ front (ap (λ (y : List ℕ). take k s ++ y) (drop_all k (drop (len % 128) d) (omega (arith, length-drop (len % 128) d))) ∙ append-nil (take k s)) in
      let dp : drop (128 * q) p ≡ x ++ s = drop-append-le (128 * q) m s mq in
      let block : take 128 (drop (128 * q) p) ≡ f = ap₂ take full dp ∙ take-append-add x s k ∙ sym fx in
      let state : st ≡ chain initial p q = hm.state_is ∙ sym (chain-append initial m s q mq) in
      let ac : a ≡ chain initial p (suc q) = ap' ∙ ap₂ compress state (sym block) ∙ chain-suc initial p q in
      -- the whole blocks after it
      let one : 128 * q + 128 ≡ 128 * suc q = omega arith in
      let td : t ≡ drop (128 * suc q) p =
      tp ∙ sym (drop-append-add x s k) ∙ ap₂ drop (sym full) (sym dp) ∙ drop-drop 128 (128 * q) p
      ∙ ap (λ (y : ℕ). drop y p) one in
      let lt : length t ≡ length s - k = ap length tp ∙ length-drop k s in
      let total : suc q + j ≡ length p / 128 = omega arith in
      let bc : b ≡ chain initial p (length p / 128) =
      bp ∙ ap₂ (λ (y : Words) (z : List ℕ). chain y z j) ac td ∙ chain_more initial p (suc q) j ∙ ap (chain initial p) total in
      -- and the rest
      let done : 128 * suc q + j * 128 ≡ 128 * (length p / 128) = omega arith in
      let ud : u ≡ drop (128 * (length p / 128)) p =
      up ∙ ap (drop (j * 128)) td ∙ drop-drop (j * 128) (128 * suc q) p ∙ ap (λ (y : ℕ). drop y p) done in
      let lu : length u ≡ length p - 128 * (length p / 128) = ap length ud ∙ length-drop (128 * (length p / 128)) p in
      let r : length p % 128 ≡ 0 + length u = omega arith in
      let lf : length f ≡ 128 = ap length fx ∙ length-append x (take k s) ∙ omega arith in
      record {
        state_is = bc;
        rest_is = ap₂ take r ep ∙ take-put_mid 0 (length u) f u (0 + length u) refl (omega arith) ∙ ud;
        rest_long = ap length ep ∙ put-length 0 (length u) u f (omega arith) refl ∙ lf;
        len_is = omega arith;
      }
