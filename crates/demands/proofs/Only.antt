-- What opens is a triple, with every key: the recomputed word and the check bytes say so. The places are those where the recomputed
-- word differs, the values the differences, and padding what was unpadded gives the same bits.
use mathlib.Core.Path.{◌≡◌, sym, ap, ap₂, ◌∙◌}
use mathlib.Core.Logic.{◌≢◌}
use mathlib.Core.Bool.{Bool, true, not, false≢true}
use mathlib.Core.List.{List, [], ◌∷◌, ◌++◌}
use Prim.Native.Nat.{ℕ, zero, suc, ◌+◌, ◌^◌, ◌<◌}
use native.Mathlib.Omega.{arith}
use native.Mathlib.Decide.{ℕ_discrete}
use lib.Dec.{eqb}
use lib.Pow.{pow_pos}
use lib.Seq.{ext_get_or, take_at, drop_at}
use lib.ListN.{length, get_or, take, drop, length-append}
use borrow.Author.Tests.{eq-eqb, ne_eqb}
use Rattle.lists.proofs.Tables.{length-tab, get_or-tab, all-tab}
use Rattle.gf.specs.Field.{width, size, ◌⊕◌}
use Rattle.gf.proofs.Xor.{add-lt, add-cancel, eq-of-add, zero_right}
use Rattle.bits.specs.Bits.{elements, elements_in, packed, Small}
use Rattle.bits.specs.Numbers.{bytes16}
use Rattle.bits.proofs.Packing.{length-elements, elements_in-bytes_for, elements-small, elements-packed, packed-elements, packed-small}
use Rattle.sets.specs.declared.Set.{Set}
use Rattle.sets.specs.Valid.{Valid}
use Rattle.scheme.specs.Field.{field_of}
use Rattle.scheme.specs.Padding.{lost_bits, cleared, padded, seed_of, message_of}
use Rattle.scheme.specs.Keys.{Private, read, public_ge}
use Rattle.scheme.specs.Sealing.{encoded, error_at, sent, triple_elements, error_values, ciphertext}
use Rattle.scheme.specs.Opening.{error_places, differences, repadded, Opens}
use Rattle.padding.proofs.Cleared.{cleared-cleared}
use Rattle.padding.proofs.Sizes.{length-padded, padded-byte, length-seed_of, length-message_of, seed_of-byte, message_of-byte}
use Rattle.padding.proofs.Padding.{pad-unpad}
use Rattle.pairs.specs.Places.{Listed}
use Rattle.demands.specs.Demands.{Triple, Sealed}
use Rattle.tie.proofs.Passing.{passing-listed}
use Rattle.demands.proofs.Reading.{outside}
use Rattle.demands.proofs.Errors.{error_at-off, error_at-at, has-none}
use Rattle.demands.proofs.Lost.{length-string, cleared-packed, elements-cleared}
use Rattle.demands.proofs.Sent.{Wrong, encoded-lt}

-- ---- the word that is recomputed, and where it differs
module _ (s : Set) (κ : Private) (x y : List ℕ) where
  abbrev ps : List ℕ
  ps = error_places s κ x y

  abbrev vs : List ℕ
  vs = differences s κ x y (error_places s κ x y)

  apart-at : ℕ → Bool
  apart-at j = not (eqb (encoded s κ.ge x j) (get_or y j 0))

  listed : Listed (λ j. apart-at j ≡ true) 0 (s.n + s.w) (length ps) (λ a. get_or ps a 0)
  unfolding error_places apart-at
  listed = let e : 0 + (s.n + s.w) ≡ s.n + s.w = omega arith in rw e at (passing-listed (λ j. not (eqb (encoded s κ.ge x j) (get_or y j 0))) 0 (s.n + s.w))

  value-at : (i : ℕ) → i < length ps → get_or vs i 0 ≡ encoded s κ.ge x (get_or ps i 0) ⊕ get_or y (get_or ps i 0) 0
  unfolding differences
  value-at i l = get_or-tab (length ps) _ i l

  pub values-long : length vs ≡ length ps
  unfolding differences
  values-long = length-tab (length ps) _

  apart-not : (j : ℕ) → apart-at j ≡ true → encoded s κ.ge x j ≢ get_or y j 0
  unfolding apart-at
  apart-not j h e = false≢true (sym (rw (eq-eqb _ _ e)) ∙ h)

  not-apart : (j : ℕ) → encoded s κ.ge x j ≢ get_or y j 0 → apart-at j ≡ true
  unfolding apart-at
  not-apart j d = rw (ne_eqb _ _ d)

  pub wrong : length ps ≡ s.t → Wrong s ps vs
  wrong exactly =
      record {
        count = exactly;
        many = values-long ∙ exactly;
        rising = listed.rising;
        below = listed.under;
        nonzero = λ i l z. apart-not _ (listed.holds i l) (eq-of-add _ _ (sym (value-at i l) ∙ z));
      }

  -- the errors make up the difference
  pub sent-again : length y ≡ s.n + s.w → sent s κ.ge x ps vs ≡ y
  unfolding sent
  sent-again long =
      ext_get_or 0 _ y (length-tab (s.n + s.w) _ ∙ sym long)
      (λ j h. let l : j < s.n + s.w = rw length-tab at h in get_or-tab (s.n + s.w) _ j l ∙ at j l (ℕ_discrete (encoded s κ.ge x j) (get_or y j 0)))
    where
      at : (j : ℕ) → j < s.n + s.w → Dec (encoded s κ.ge x j ≡ get_or y j 0) → encoded s κ.ge x j ⊕ error_at ps vs j ≡ get_or y j 0
      at j l (yes e) =
          ap (λ (a : ℕ). encoded s κ.ge x j ⊕ a) (error_at-off ps vs j (λ i h q. apart-not j (rw q at (listed.holds i h)) e)) ∙ zero_right _ ∙ e
      at j l (no d) =
          let (a, h, q) = listed.every j (omega arith) l (not-apart j d) in
          ap (λ (b : ℕ). encoded s κ.ge x j ⊕ b) (ap (error_at ps vs) q ∙ error_at-at ps vs listed.rising a h ∙ value-at a h ∙ sym (ap (λ (i : ℕ). encoded s κ.ge x i ⊕ get_or y i 0) q))
          ∙ add-cancel (encoded s κ.ge x j) (get_or y j 0)

  pub values-small : (e : width (field_of s) ≡ s.m) → ((i : ℕ) → get_or x i 0 < size (field_of s)) → Small s.m y → Small s.m vs
  unfolding differences
  values-small e small sy =
      all-tab (λ a. a < 2 ^ s.m) (length ps) _ (pow_pos s.m) (λ i. add-lt s.m _ _ (outside s e _ (encoded-lt s κ.ge x small _)) (sy _))

-- ---- elements, of two lists
pub small-append : (w : ℕ) (a b : List ℕ) → Small w a → Small w b → Small w (a ++ b)
small-append w [] b ha hb i = hb i
small-append w (x ∷ a) b ha hb zero = ha 0
small-append w (x ∷ a) b ha hb (suc i) = small-append w a b (λ i. ha (suc i)) hb i

module _ (s : Set) (ok : Valid s) (e : width (field_of s) ≡ s.m) (key cipher msg : List ℕ) (long : length cipher ≡ s.cipher) (bytes : Small 8 cipher)
    (O : Opens s key cipher msg) where
  abbrev κ : Private
  κ = read s key

  abbrev y : List ℕ
  y = elements s.m cipher

  abbrev places : List ℕ
  places = error_places s κ O.x y

  abbrev values : List ℕ
  values = differences s κ O.x y (error_places s κ O.x y)

  abbrev p : List ℕ
  p = repadded s κ O.x y

  whole : elements_in s.m (length cipher) ≡ s.n + s.w
  whole = rw (long, ok.cipher_is) (elements_in-bytes_for s.m (s.n + s.w) ok.narrow)

  y-long : length y ≡ s.n + s.w
  y-long = length-elements s.m cipher ∙ whole

  cipher-again : packed s.m y ≡ cipher
  cipher-again = packed-elements s.m cipher bytes (rw whole (sym (long ∙ ok.cipher_is))) O.spare

  W : Wrong s places values
  W = wrong s κ O.x y O.exactly

  -- the k + t elements
  es-small : Small s.m (O.x ++ values)
  es-small =
      small-append s.m O.x values (λ i. outside s e _ (O.vector.small i)) (values-small s κ O.x y e O.vector.small (elements-small s.m cipher))

  es-long : length (O.x ++ values) ≡ s.k + s.t
  es-long = length-append O.x values ∙ ap₂ ◌+◌ O.vector.long W.many

  p-long : length p ≡ s.k1 + s.k2 + s.k3
  unfolding repadded
  p-long = length-string s ok (O.x ++ values) es-small es-long

  p-cleared : cleared (lost_bits s) p ≡ p
  unfolding repadded
  p-cleared = cleared-packed s ok (O.x ++ values) es-small es-long

  p-bytes : Small 8 p
  unfolding repadded
  p-bytes = packed-small s.m (O.x ++ values)

  p-elements : elements s.m p ≡ O.x ++ values
  unfolding repadded
  p-elements = elements-packed s.m ok.narrow (O.x ++ values) es-small

  abbrev m : List ℕ
  m = message_of s p (bytes16 places)

  abbrev seed : List ℕ
  seed = seed_of s p

  m-long : length m ≡ s.k1
  m-long = length-message_of s p p-long (bytes16 places)

  m-bytes : Small 8 m
  m-bytes = message_of-byte s p (bytes16 places) p-bytes

  seed-long : length seed ≡ s.k3
  seed-long = length-seed_of s p p-long

  seed-bytes : Small 8 seed
  seed-bytes = seed_of-byte s p (bytes16 places) p-bytes

  -- padding gives the elements back
  triple-is : triple_elements s m seed places ≡ O.x ++ values
  unfolding triple_elements
  triple-is =
      sym (elements-cleared s ok (padded s m seed (bytes16 places)) (padded-byte s m seed (bytes16 places) m-bytes seed-bytes) (length-padded s m seed (bytes16 places) m-long seed-long))
      ∙ ap (elements s.m) (pad-unpad s p (bytes16 places) ok.some_seed p-long p-cleared O.checks) ∙ p-elements

  values-are : error_values s m seed places ≡ values
  unfolding error_values
  values-are = ap (drop s.k) triple-is ∙ drop_at O.x values s.k O.vector.long

  vector-is : take s.k (triple_elements s m seed places) ≡ O.x
  vector-is = ap (take s.k) triple-is ∙ take_at O.x values s.k O.vector.long

  seed-forced : cleared (lost_bits s) seed ≡ seed
  unfolding seed_of
  seed-forced = cleared-cleared (lost_bits s) _

  triple : Triple s m seed places
  triple =
      record {
        msg_long = m-long;
        msg_bytes = m-bytes;
        seed_long = seed-long;
        seed_bytes = seed-bytes;
        forced = seed-forced;
        count = O.exactly;
        rising = λ i j l h. W.rising i j l (omega (arith, O.exactly));
        below = λ i h. W.below i (omega (arith, O.exactly));
        values = rw values-are (has-none values 0 (λ i h. W.nonzero i (omega (arith, W.many, W.count))));
      }

  ciphertext-is : ciphertext s κ.ge m seed places ≡ cipher
  unfolding ciphertext
  ciphertext-is =
      ap₂ (λ (a b : List ℕ). packed s.m (sent s κ.ge a places b)) vector-is values-are ∙ ap (packed s.m) (sent-again s κ O.x y y-long) ∙ cipher-again

  -- THEOREM (only). What opens to a message is the ciphertext of a triple with that message.
  pub only : (public : List ℕ) → public_ge s public ≡ κ.ge → Sealed s public cipher msg
  only public same =
      record {
        seed = seed;
        places = places;
        triple = rw O.message triple;
        is = rw (O.message, same) ciphertext-is;
      }
