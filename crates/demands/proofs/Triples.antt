-- What a triple is made of: a vector, and t places with values that are not zero; its elements give back its padded string without the
-- lost bits.
use mathlib.Core.Path.{◌≡◌, ap, ◌∙◌}
use mathlib.Core.Bool.{Bool, true, false}
use mathlib.Core.List.{List, [], ◌∷◌, ◌++◌}
use Prim.Native.Nat.{ℕ, zero, suc, ◌+◌, ◌^◌, ◌<◌}
use native.Mathlib.Omega.{arith}
use lib.Dec.{eqb}
use lib.Pow.{pow_pos}
use lib.Seq.{get_or-drop, length-take-le}
use lib.ListN.{length, take, drop, length-drop, take-append-drop}
use Rattle.lists.specs.Loops.{pick}
use Rattle.lists.proofs.Tables.{all-tab}
use Rattle.gf.specs.Field.{width}
use Rattle.gf.proofs.Xor.{add-lt}
use Rattle.bits.specs.Bits.{elements, packed, tail_zero, Small}
use Rattle.bits.specs.Numbers.{bytes16}
use Rattle.bits.proofs.Packing.{elements-small, elements-packed, packed-tail}
use Rattle.sets.specs.declared.Set.{Set}
use Rattle.sets.specs.Valid.{Valid}
use Rattle.scheme.specs.Field.{field_of}
use Rattle.scheme.specs.Padding.{lost_bits, cleared, padded}
use Rattle.scheme.specs.Sealing.{error_at, sent, triple_elements, error_values, ciphertext}
use Rattle.padding.proofs.Sizes.{length-padded, padded-byte}
use Rattle.demands.specs.Demands.{Triple}
use Rattle.demands.proofs.Reading.{within, outside}
use Rattle.demands.proofs.Errors.{none-zero}
use Rattle.demands.proofs.Lost.{length-triple, packed-cleared}
use Rattle.demands.proofs.Sent.{Wrong, encoded-lt}

-- ---- lists of elements
pub small-take : (w k : ℕ) (l : List ℕ) → Small w l → Small w (take k l)
small-take w zero l h i = pow_pos w
small-take w (suc k) [] h i = pow_pos w
small-take w (suc k) (x ∷ l) h zero = h 0
small-take w (suc k) (x ∷ l) h (suc i) = small-take w k l (λ i. h (suc i)) i

pub small-drop : (w k : ℕ) (l : List ℕ) → Small w l → Small w (drop k l)
small-drop w k l h i = rw get_or-drop (h (k + i))

pub error_at-lt : (w : ℕ) (ps vs : List ℕ) → Small w vs → (j : ℕ) → error_at ps vs j < 2 ^ w
unfolding error_at
error_at-lt w [] vs h j = pow_pos w
error_at-lt w (p ∷ ps) [] h j = pow_pos w
error_at-lt w (p ∷ ps) (v ∷ vs) h j = go (eqb p j) (error_at-lt w ps vs (λ i. h (suc i)) j)
  where
    go : (b : Bool) → error_at ps vs j < 2 ^ w → pick b v (error_at ps vs j) < 2 ^ w
    go true r = h 0
    go false r = r

module _ (s : Set) (e : width (field_of s) ≡ s.m) (ge x ps vs : List ℕ) (sx : Small s.m x) (sv : Small s.m vs) where
  pub sent-small : Small s.m (sent s ge x ps vs)
  unfolding sent
  sent-small =
      all-tab (λ a. a < 2 ^ s.m) (s.n + s.w) _ (pow_pos s.m)
      (λ j. add-lt s.m _ _ (outside s e _ (encoded-lt s ge x (λ i. within s e _ (sx i)) j)) (error_at-lt s.m ps vs sv j))

-- ---- a triple
module _ (s : Set) (ok : Valid s) (msg seed places : List ℕ) (T : Triple s msg seed places) where
  abbrev pub string : List ℕ
  string = padded s msg seed (bytes16 places)

  pub string-long : length string ≡ s.k1 + s.k2 + s.k3
  string-long = length-padded s msg seed (bytes16 places) T.msg_long T.seed_long

  pub string_bytes : Small 8 string
  string_bytes = padded-byte s msg seed (bytes16 places) T.msg_bytes T.seed_bytes

  abbrev pub vector_of : List ℕ
  vector_of = take s.k (triple_elements s msg seed places)

  triple-long : length (triple_elements s msg seed places) ≡ s.k + s.t
  unfolding triple_elements
  triple-long = length-triple s ok string string_bytes string-long

  triple-small : Small s.m (triple_elements s msg seed places)
  unfolding triple_elements
  triple-small = elements-small s.m string

  pub vector-long : length vector_of ≡ s.k
  vector-long = length-take-le s.k (triple_elements s msg seed places) (omega (arith, triple-long))

  pub vector-small : Small s.m vector_of
  vector-small = small-take s.m s.k (triple_elements s msg seed places) triple-small

  pub values-small : Small s.m (error_values s msg seed places)
  unfolding error_values
  values-small = small-drop s.m s.k (triple_elements s msg seed places) triple-small

  pub triple-wrong : Wrong s places (error_values s msg seed places)
  unfolding error_values
  triple-wrong =
      record {
        count = T.count;
        many = many;
        rising = λ i j l h. T.rising i j l (omega (arith, T.count));
        below = λ i h. T.below i (omega (arith, T.count));
        nonzero = λ i h. none-zero (drop s.k (triple_elements s msg seed places)) T.values i (omega (arith, T.count, many));
      }
    where
      many : length (drop s.k (triple_elements s msg seed places)) ≡ s.t
      many = length-drop s.k (triple_elements s msg seed places) ∙ omega (arith, triple-long)

  -- vector and values give back the string, without its lost bits
  pub string-back : packed s.m (vector_of ++ error_values s msg seed places) ≡ cleared (lost_bits s) string
  unfolding error_values triple_elements
  string-back =
      ap (packed s.m) (take-append-drop s.k (elements s.m string)) ∙ packed-cleared s ok string string_bytes string-long

  -- the ciphertext gives back the word that is sent
  module _ (e : width (field_of s) ≡ s.m) (ge : List ℕ) where
    abbrev pub sent_by : List ℕ
    sent_by = sent s ge (take s.k (triple_elements s msg seed places)) places (error_values s msg seed places)

    pub sent_by-small : Small s.m sent_by
    sent_by-small = sent-small s e ge vector_of places (error_values s msg seed places) vector-small values-small

    pub word_back : elements s.m (ciphertext s ge msg seed places) ≡ sent_by
    unfolding ciphertext
    word_back = elements-packed s.m ok.narrow sent_by sent_by-small

    pub cipher-tail : tail_zero s.m (ciphertext s ge msg seed places) ≡ true
    unfolding ciphertext
    cipher-tail = packed-tail s.m ok.narrow sent_by
