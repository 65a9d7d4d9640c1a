-- Of a good pair: every triple opens, and no two triples give one ciphertext.
use mathlib.Core.Path.{◌≡◌, sym, ap, ap₂, ◌∙◌}
use mathlib.Core.List.{List, ◌++◌}
use Prim.Native.Nat.{ℕ}
use lib.ListN.{take}
use Rattle.gf.specs.Field.{width}
use Rattle.bits.specs.Bits.{elements, packed}
use Rattle.bits.specs.Numbers.{bytes16}
use Rattle.sets.specs.declared.Set.{Set}
use Rattle.sets.specs.Valid.{Valid}
use Rattle.scheme.specs.Field.{field_of}
use Rattle.scheme.specs.Padding.{lost_bits, cleared, padded}
use Rattle.scheme.specs.Keys.{Private, read}
use Rattle.scheme.specs.Sealing.{sent, triple_elements, error_values, ciphertext}
use Rattle.scheme.specs.Opening.{error_places, differences, repadded, Vector, Opens}
use Rattle.padding.proofs.Padding.{unpad-pad, padded-once}
use Rattle.demands.specs.Demands.{Triple}
use Rattle.demands.proofs.Sound.{Sound}
use Rattle.demands.proofs.Reading.{within}
use Rattle.demands.proofs.Pairs.{IsGood}
use Rattle.demands.proofs.Sent.{Wrong, places-back, values-back, code_of, code-lands, code-near, code-vector}
use Rattle.demands.proofs.Finding.{vectors-once}
use Rattle.demands.proofs.Triples.{vector-long, vector-small, triple-wrong, string-back, word_back, cipher-tail}

-- recomputing gives back the padded string
pub repadded-back : (s : Set) (κ : Private) (x ps vs : List ℕ) → Wrong s ps vs → repadded s κ x (sent s κ.ge x ps vs) ≡ packed s.m (x ++ vs)
unfolding repadded
repadded-back s κ x ps vs w = rw (places-back s κ x ps vs w, values-back s κ x ps vs w)

module _ (s : Set) (ok : Valid s) (e : width (field_of s) ≡ s.m) (κ : Private) (S : Sound s κ) (G : IsGood s ok κ S) where
  module _ (msg seed places : List ℕ) (T : Triple s msg seed places) where
    abbrev x : List ℕ
    x = take s.k (triple_elements s msg seed places)

    abbrev vs : List ℕ
    vs = error_values s msg seed places

    abbrev W : Wrong s places vs
    W = triple-wrong s ok msg seed places T

    same-string : repadded s κ x (sent s κ.ge x places vs) ≡ cleared (lost_bits s) (padded s msg seed (bytes16 places))
    same-string = repadded-back s κ x places vs W ∙ string-back s ok msg seed places T

    x-vector : Vector s κ (code_of s ok κ S e G x) x
    x-vector =
        code-vector s ok κ S e G x (vector-long s ok msg seed places T) (λ i. within s e _ (vector-small s ok msg seed places T i))

    -- THEOREM (opens). Every triple opens.
    pub opens : (key cipher : List ℕ) → read s key ≡ κ → ciphertext s κ.ge msg seed places ≡ cipher → Opens s key cipher msg
    opens key cipher r q =
        let y : elements s.m cipher ≡ sent s κ.ge x places vs = ap (elements s.m) (sym q) ∙ word_back s ok msg seed places T e κ.ge in
        let u = unpad-pad s msg seed (bytes16 places) ok.some_seed T.msg_long T.seed_long in
        record {
          spare = rw (← q) (cipher-tail s ok msg seed places T e κ.ge);
          code = code_of s ok κ S e G x;
          word = code-lands s ok κ S e G x;
          near = rw (r, y) (code-near s ok κ S e G x places vs W);
          x = x;
          vector = rw r x-vector;
          exactly = rw (r, y, places-back s κ x places vs W) T.count;
          checks = rw (r, y, same-string, places-back s κ x places vs W) u.checks;
          message = rw (r, y, same-string, places-back s κ x places vs W) (sym u.message_is);
        }

  module _ (msg seed places msg' seed' places' : List ℕ) (T : Triple s msg seed places) (T' : Triple s msg' seed' places')
      (q : ciphertext s κ.ge msg seed places ≡ ciphertext s κ.ge msg' seed' places') where
    abbrev y : List ℕ
    y = sent s κ.ge (x msg seed places T) places (vs msg seed places T)

    abbrev y' : List ℕ
    y' = sent s κ.ge (x msg' seed' places' T') places' (vs msg' seed' places' T')

    same_word : y ≡ y'
    same_word =
        sym (word_back s ok msg seed places T e κ.ge) ∙ ap (elements s.m) q ∙ word_back s ok msg' seed' places' T' e κ.ge

    same-vector : x msg seed places T ≡ x msg' seed' places' T'
    same-vector =
        vectors-once s ok κ S e G.regular y
        (code_of s ok κ S e G (x msg seed places T)) (x msg seed places T) (code_of s ok κ S e G (x msg' seed' places' T')) (x msg' seed' places' T')
        (code-lands s ok κ S e G (x msg seed places T)) (code-near s ok κ S e G (x msg seed places T) places (vs msg seed places T) (W msg seed places T)) (x-vector msg seed places T)
        (code-lands s ok κ S e G (x msg' seed' places' T')) (rw same_word (code-near s ok κ S e G (x msg' seed' places' T') places' (vs msg' seed' places' T') (W msg' seed' places' T'))) (x-vector msg' seed' places' T')

    same-places : places ≡ places'
    same-places =
        sym (places-back s κ (x msg seed places T) places (vs msg seed places T) (W msg seed places T)) ∙ ap₂ (error_places s κ) same-vector same_word
        ∙ places-back s κ (x msg' seed' places' T') places' (vs msg' seed' places' T') (W msg' seed' places' T')

    same-values : vs msg seed places T ≡ vs msg' seed' places' T'
    same-values =
        sym (values-back s κ (x msg seed places T) places (vs msg seed places T) (W msg seed places T))
        ∙ ap₂ (λ (a b : List ℕ). differences s κ a b places) same-vector same_word ∙ ap (differences s κ (x msg' seed' places' T') y') same-places
        ∙ values-back s κ (x msg' seed' places' T') places' (vs msg' seed' places' T') (W msg' seed' places' T')

    same-padded : cleared (lost_bits s) (padded s msg seed (bytes16 places)) ≡ cleared (lost_bits s) (padded s msg' seed' (bytes16 places))
    same-padded =
        sym (string-back s ok msg seed places T) ∙ ap₂ (λ (a b : List ℕ). packed s.m (a ++ b)) same-vector same-values
        ∙ string-back s ok msg' seed' places' T' ∙ ap (λ (p : List ℕ). cleared (lost_bits s) (padded s msg' seed' (bytes16 p))) (sym same-places)

    -- THEOREM (once). No two triples give one ciphertext.
    pub once : (msg ≡ msg') × (seed ≡ seed') × (places ≡ places')
    once =
        let r = padded-once s msg seed msg' seed' (bytes16 places) ok.some_seed T.msg_long T.seed_long T'.msg_long T'.seed_long same-padded in
        (r.0, sym T.forced ∙ r.1 ∙ T'.forced, same-places)
