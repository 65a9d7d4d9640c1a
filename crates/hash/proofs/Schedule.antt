-- The words of a block, the ring that holds the last sixteen, and the rounds over them.
use Rattle.std.proofs.Common.{◌≡◌, ℕ, zero, suc, ◌+◌, ◌-◌, ◌*◌, ◌%◌, ◌<◌, ◌≤◌, List, [], ◌∷◌, length, get_or, set, sym, refl, ap, ◌∙◌, add-zero, add-suc, add-one, arith, length-append, length-set, get_or-set_other, le-ltb, lt-ltb}
use native.Mathlib.Decide.{dec_lt}
use Rattle.std.proofs.Math.Seq.{get_or-append_seam}
use Rattle.std.proofs.lemmas.Grind.{get_or-set_at}
use lib.ListN.{get_or-append}
use Rattle.hash.specs.declared.word.Words.{Words}
use Rattle.hash.specs.Word.{add, ssig0, ssig1}
use Rattle.hash.specs.Constants.{k_table}
use Rattle.hash.specs.Sha.{word, extend, w_next, schedule, round, rounds}
use Rattle.hash.specs.Held.{At, Ring, next_word}

length-schedule : (b : List ℕ) (t : ℕ) → length (schedule b t) ≡ t
unfolding schedule
length-schedule b zero = refl
length-schedule b (suc t) = length-append (schedule b t) (w_next b (schedule b t) t ∷ []) ∙ rw (length-schedule b t, add-one)

-- ---- a word stays as it is
kept : (b : List ℕ) (i n d : ℕ) → i < n → get_or (schedule b (n + d)) i 0 ≡ get_or (schedule b n) i 0
unfolding schedule
kept b i n zero h = rw add-zero
kept b i n (suc d) h =
    rw add-suc
    (get_or-append (schedule b (n + d)) (w_next b (schedule b (n + d)) (n + d) ∷ []) 0 i (omega (arith, length-schedule b (n + d)))
    ∙ kept b i n d h)

final : (b : List ℕ) (i n : ℕ) → i < n → n ≤ 80 → get_or (schedule b n) i 0 ≡ get_or (schedule b 80) i 0
final b i n h k =
    let all : n + (80 - n) ≡ 80 = omega arith in
    sym (kept b i n (80 - n) h) ∙ ap (λ (m : ℕ). get_or (schedule b m) i 0) all

newest : (b : List ℕ) (t : ℕ) → get_or (schedule b (suc t)) t 0 ≡ w_next b (schedule b t) t
unfolding schedule
newest b t =
    ap (λ (i : ℕ). get_or (schedule b (suc t)) i 0) (sym (length-schedule b t))
    ∙ get_or-append_seam (schedule b t) (w_next b (schedule b t) t) [] 0

made : (b : List ℕ) (t : ℕ) → t < 80 → get_or (schedule b 80) t 0 ≡ w_next b (schedule b t) t
made b t h = sym (final b t (suc t) (omega arith) (omega arith)) ∙ newest b t

first : (b : List ℕ) (t : ℕ) → t < 16 → get_or (schedule b 80) t 0 ≡ word b (t * 8)
unfolding w_next
first b t h = made b t (omega arith) ∙ rw (lt-ltb t 16 h)

later : (b : List ℕ) (t : ℕ) → 16 ≤ t → t < 80
    → get_or (schedule b 80) t 0
    ≡ add (add (add (ssig1 (get_or (schedule b 80) (t - 2) 0)) (get_or (schedule b 80) (t - 7) 0)) (ssig0 (get_or (schedule b 80) (t - 15) 0))) (get_or (schedule b 80) (t - 16) 0)
unfolding w_next extend
later b t h k =
    made b t k
    ∙ rw (
      le-ltb t 16 h,
      final b (t - 2) t (omega arith) (omega arith),
      final b (t - 7) t (omega arith) (omega arith),
      final b (t - 15) t (omega arith) (omega arith),
      final b (t - 16) t (omega arith) (omega arith),
    )

-- ---- the ring
module _ {b w : List ℕ} {t p : ℕ} (place : p ≡ t % 16) (from : 16 ≤ t) (below : t < 80) (r : Ring b t w) where
  before : (d q : ℕ) → 0 < d → d ≤ 16 → q ≡ (t - d) % 16 → get_or w q 0 ≡ get_or (schedule b 80) (t - d) 0
  before d q h k e = ap (λ (i : ℕ). get_or w i 0) e ∙ r.words (t - d) (omega arith) (omega arith)

  pub ring_word : next_word w p ≡ get_or (schedule b 80) t 0
  ring_word =
      rw (
        before 2 ((p + 14) % 16) (omega arith) (omega arith) (omega arith),
        before 7 ((p + 9) % 16) (omega arith) (omega arith) (omega arith),
        before 15 ((p + 1) % 16) (omega arith) (omega arith) (omega arith),
        before 16 p (omega arith) (omega arith) (omega arith),
      ) (sym (later b t from below))

  pub ring_more : {w' : List ℕ} {x : ℕ} → x ≡ get_or (schedule b 80) t 0 → w' ≡ set w p x → Ring b (t + 1) w'
  ring_more {w'} {x} e s = record {
    long = ap length s ∙ length-set w p x ∙ r.long;
    words = λ j h k. ap (λ (l : List ℕ). get_or l (j % 16) 0) s ∙ go j h k (dec_lt j t);
  }
    where
      go : (j : ℕ) → j < t + 1 → t + 1 ≤ j + 16 → Dec (j < t) → get_or (set w p x) (j % 16) 0 ≡ get_or (schedule b 80) j 0
      go j h k (yes l) = get_or-set_other w p (j % 16) x 0 (λ q. omega arith) ∙ r.words j l (omega arith)
      go j h k (no l) =
          let same : t ≡ j = omega arith in
          get_or-set_at w p (j % 16) x 0 (omega arith) (omega (arith, r.long)) ∙ e ∙ ap (λ (i : ℕ). get_or (schedule b 80) i 0) same

-- ---- the rounds
next_round : {s : Words} {b : List ℕ} {t t' k w : ℕ} {v v' : Words}
    → t' ≡ t + 1 → k ≡ get_or k_table t 0 → w ≡ get_or (schedule b 80) t 0 → v' ≡ round v k w → At s b t v → At s b t' v'
unfolding rounds
next_round {s} {b} {t} {t'} {k} {w} {v} {v'} next kp wp vp a =
    record { state = vp ∙ cc (a.state, kp, wp) ∙ sym (ap (rounds s (schedule b 80)) (next ∙ add-one t)) }

-- round t, whose word was loaded
pub loaded_round : {s : Words} {b w k : List ℕ} {t t' : ℕ} {v v' : Words}
    → k ≡ k_table → t < 16 → t' ≡ t + 1 → Ring b 16 w → v' ≡ round v (get_or k t 0) (get_or w t 0) → At s b t v → At s b t' v'
loaded_round {s} {b} {w} {k} {t} {t'} {v} {v'} kp h next r vp a =
    let place : t ≡ t % 16 = omega arith in
    next_round next (ap (λ (l : List ℕ). get_or l t 0) kp) (ap (λ (i : ℕ). get_or w i 0) place ∙ r.words t h (omega arith)) vp a

-- a later round t, whose word is made in the ring
pub ring_round : {s : Words} {b w w' k : List ℕ} {t t' p x : ℕ} {v v' : Words}
    → k ≡ k_table → p ≡ t % 16 → 16 ≤ t → t < 80 → t' ≡ t + 1
    → (x ≡ next_word w p) × (w' ≡ set w p x) → v' ≡ round v (get_or k t 0) x
    → Ring b t w × At s b t v → Ring b t' w' × At s b t' v'
ring_round {s} {b} {w} {w'} {k} {t} {t'} {p} {x} {v} {v'} kp place from below next (xp, wp) vp (r, a) =
    let word : x ≡ get_or (schedule b 80) t 0 = xp ∙ ring_word place from below r in
    (rw next (ring_more place from below r word wp), next_round next (ap (λ (l : List ℕ). get_or l t 0) kp) word vp a)

-- ---- the first sixteen words, as they are loaded
pub loaded_more : (b w : List ℕ) {i x : ℕ} → i < length w → x ≡ word b (8 * i)
    → ((j : ℕ) → j < i → get_or w j 0 ≡ word b (8 * j)) → (j : ℕ) → j < i + 1 → get_or (set w i x) j 0 ≡ word b (8 * j)
loaded_more b w {i} {x} within e words j h = go (dec_lt j i)
  where
    go : Dec (j < i) → get_or (set w i x) j 0 ≡ word b (8 * j)
    go (yes l) = get_or-set_other w i j x 0 (λ q. omega arith) ∙ words j l
    go (no l) =
        let same : i ≡ j = omega arith in
        get_or-set_at w i j x 0 (omega arith) within ∙ e ∙ ap (λ (n : ℕ). word b (8 * n)) same

pub ring_begun : (b w : List ℕ) → length w ≡ 16 → ((j : ℕ) → j < 16 → get_or w j 0 ≡ word b (8 * j)) → Ring b 16 w
ring_begun b w long words = record {
  long = long;
  words = λ j h k.
      let place : j % 16 ≡ j = omega arith in
      let at : 8 * j ≡ j * 8 = omega arith in
      ap (λ (i : ℕ). get_or w i 0) place ∙ words j h ∙ ap (word b) at ∙ sym (first b j h);
}

pub at_start : {s : Words} {b : List ℕ} → At s b 0 s
unfolding rounds
at_start = record { state = refl }
