-- Opening finds what `pairs` says it finds; so it gives at most one message, with every key that is neither malformed nor singular.
use mathlib.Core.Path.{◌≡◌, sym, ap, ◌∙◌}
use mathlib.Core.List.{List}
use Prim.Native.Nat.{ℕ, ◌-◌, ◌≤◌}
use native.Mathlib.Omega.{arith}
use lib.Seq.{ext_get_or}
use lib.ListN.{length, get_or}
use Rattle.theory.specs.Word.{wt}
use Rattle.theory.proofs.Weight.{wt-ext}
use Rattle.gf.specs.Field.{width}
use Rattle.gf.proofs.Elements.{El, plus, el-injective, alpha-points}
use Rattle.bits.specs.Bits.{elements}
use Rattle.bits.specs.Numbers.{bytes16}
use Rattle.sets.specs.declared.Set.{Set}
use Rattle.sets.specs.Valid.{Valid}
use Rattle.code.specs.Words.{CodeWord, apart}
use Rattle.code.proofs.Bridge.{X, code_is, wt-apart}
use Rattle.scheme.specs.Field.{field_of}
use Rattle.scheme.specs.Padding.{message_of}
use Rattle.scheme.specs.Keys.{Private, read}
use Rattle.scheme.specs.Opening.{undone, places_i, places_t, error_places, repadded, Vector}
use Rattle.pairs.specs.Key as pairs
use Rattle.pairs.specs.Good as good
use Rattle.pairs.proofs.Opening.{finds-once}
use Rattle.demands.specs.Demands.{AtMostOne}
use Rattle.tie.proofs.Bridge.{field, K, word, sizes, key_of, undone-el}
use Rattle.demands.proofs.Sound.{Sound, sound-well}
use Rattle.tie.proofs.Splitting.{split-IT, vector-el}
use Rattle.tie.proofs.Regular.{IsRegular, regular-el}
use Rattle.demands.proofs.Reading.{points, well-sound}

module _ (s : Set) (ok : Valid s) (κ : Private) (S : Sound s κ) where
  -- opening finds the vector x in the word y
  abbrev pub Finds : (ℕ → El (field_of s)) → (ℕ → El (field_of s)) → Type 0
  Finds y x =
      good.Finds (K s) (sizes ok) (X (field_of s) (field s)) (key_of s κ) (length (places_i s κ)) (λ b. get_or (places_t s κ) b 0) y x

  pub finds-el : (y c x : List ℕ) → CodeWord (field_of s) s.n (s.n - s.k) c → apart s.n (undone s κ y) c ≤ s.t → Vector s κ c x
      → Finds (word s y) (word s x)
  finds-el y c x C near v =
      let back : ℕ → El (field_of s) = pairs.undone (K s) (sizes ok) (key_of s κ) (word s y) in
      let far : ℕ → El (field_of s) = λ i. plus (field_of s) (word s (undone s κ y) i) (word s c i) in
      let same : wt (K s) far s.n ≡ wt (K s) (λ i. plus (field_of s) (back i) (word s c i)) s.n =
      wt-ext (K s) far _ s.n (λ i l. ap (λ (a : El (field_of s)). plus (field_of s) a (word s c i)) (undone-el s ok κ y i l)) in
      record {
        code = word s c;
        word = code_is (field_of s) (field s) s.n (s.n - s.k) c C;
        near = omega (arith, wt-apart (field_of s) (field s) s.n (undone s κ y) c);
        vector = vector-el s ok κ (sound-well ok κ S) c x v;
      }

  module _ (e : width (field_of s) ≡ s.m) (regular : IsRegular s κ) where
    -- one word has one vector
    pub vectors-once : (y c x c' x' : List ℕ) → CodeWord (field_of s) s.n (s.n - s.k) c → apart s.n (undone s κ y) c ≤ s.t
        → Vector s κ c x → CodeWord (field_of s) s.n (s.n - s.k) c' → apart s.n (undone s κ y) c' ≤ s.t → Vector s κ c' x' → x ≡ x'
    vectors-once y c x c' x' C near v C' near' v' =
        let W = sound-well ok κ S in
        let P = alpha-points (field_of s) (field s) s.n (points s e ok) in
        let once = finds-once (K s) (sizes ok) (key_of s κ) (length (places_i s κ)) _ _ (split-IT s ok κ W) regular W (X (field_of s) (field s)) P (word s y) (word s x) (word s x') (finds-el y c x C near v) (finds-el y c' x' C' near' v') in
        ext_get_or 0 x x' (v.long ∙ sym v'.long)
        (λ i h. el-injective (field_of s) (field s) _ _ (v.small i) (v'.small i) (once i (omega (arith, v.long))))

-- THEOREM (at most one). Opening gives at most one message.
pub at_most_one : (s : Set) → Valid s → width (field_of s) ≡ s.m → AtMostOne s
at_most_one s ok e key cipher a b long w none p q =
    p.message ∙ ap (λ (x : List ℕ). message_of s (repadded s (read s key) x y) (bytes16 (error_places s (read s key) x y))) same ∙ sym q.message
  where
    y : List ℕ
    y = elements s.m cipher

    same : p.x ≡ q.x
    same =
        vectors-once s ok (read s key) (well-sound s e ok key long w) e (regular-el s (read s key) none) (elements s.m cipher) p.code p.x q.code q.x p.word p.near p.vector q.word q.near q.vector
