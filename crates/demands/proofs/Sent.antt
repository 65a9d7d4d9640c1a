-- The word that is sent, of a vector x, t places and their values: recomputing finds the places and the values, and of a good pair
-- opening finds the code word of x, and x.
use mathlib.Core.Path.{◌≡◌, refl, sym, ap, ap₂, ◌∙◌}
use mathlib.Core.Logic.{◌≢◌}
use mathlib.Core.Bool.{Bool, true, false, not, false≢true}
use mathlib.Core.List.{List}
use Prim.Native.Nat.{ℕ, ◌+◌, ◌-◌, ◌*◌, ◌≤◌, ◌<◌}
use native.Mathlib.Omega.{arith}
use lib.Dec.{eqb, ltb}
use lib.Seq.{ext_get_or}
use lib.ListN.{length, get_or}
use borrow.Author.Tests.{eq-eqb, ne_eqb}
use Rattle.lists.specs.Loops.{pick, tab}
use Rattle.lists.proofs.Tables.{length-tab, get_or-tab}
use Rattle.theory.specs.Word.{wt}
use Rattle.theory.specs.Code.{Points}
use Rattle.theory.proofs.Weight.{wt-ext}
use Rattle.gf.specs.Field.{width, size, ◌⊕◌}
use Rattle.gf.proofs.Xor.{add-self, add-cancel, zero_right}
use Rattle.gf.proofs.Ring.{mul-lt}
use Rattle.gf.proofs.Elements.{El, plus, el-xor, el-injective, alpha-points}
use Rattle.sets.specs.declared.Set.{Set}
use Rattle.sets.specs.Valid.{Valid}
use Rattle.code.specs.Words.{CodeWord, apart}
use Rattle.code.proofs.Bridge.{X, apart-wt}
use Rattle.scheme.specs.Field.{field_of}
use Rattle.scheme.specs.Keys.{Private}
use Rattle.scheme.specs.Sealing.{combined, encoded, error_at, sent}
use Rattle.scheme.specs.Opening.{undone, redone, placed, places_i, places_t, error_places, differences, Vector}
use Rattle.pairs.specs.Key as pairs
use Rattle.pairs.specs.Encoding as pairs-code
use Rattle.pairs.specs.Good as good
use Rattle.pairs.proofs.Listing.{listed-iff, wt-off}
use Rattle.pairs.proofs.Opening.{vector-ext}
use Rattle.pairs.proofs.Good.{word-lands, opens-near, vector-own}
use Rattle.tie.proofs.Bridge.{field, K, E, word, sizes, ge_of, key_of, combined-lt, encoded-el, redone-el}
use Rattle.demands.proofs.Sound.{Sound, sound-well}
use Rattle.tie.proofs.Splitting.{split-IT, length-T, unmixed-yes}
use Rattle.demands.proofs.Reading.{points}
use Rattle.demands.proofs.Errors.{error_at-off, error_at-at, errors-listed, passing-once}
use Rattle.demands.proofs.Pairs.{IsGood, el-lands, undone-as, undone-small}

-- t places, rising, with values that are not zero
pub record Wrong (s : Set) (ps vs : List ℕ) : Type 0 where
  pub count : length ps ≡ s.t
  pub many : length vs ≡ s.t
  pub rising : (i j : ℕ) → i < j → j < length ps → get_or ps i 0 < get_or ps j 0
  pub below : (i : ℕ) → i < length ps → get_or ps i 0 < s.n + s.w
  pub nonzero : (i : ℕ) → i < length ps → get_or vs i 0 ≢ 0

-- a sum differs from its first part just where the second is not zero
differs : (a b e : ℕ) → b ≡ a ⊕ e → e ≢ 0 → not (eqb a b) ≡ true
differs a b e q d =
    rw (ne_eqb a b (λ h. d (sym (add-cancel a e) ∙ ap (λ (x : ℕ). a ⊕ x) (sym q) ∙ ap (λ (x : ℕ). a ⊕ x) (sym h) ∙ add-self a)))

same : (a b e : ℕ) → b ≡ a ⊕ e → not (eqb a b) ≡ true → e ≢ 0
same a b e q h z =
    let r : a ≡ b = sym (q ∙ ap (λ (x : ℕ). a ⊕ x) z ∙ zero_right a) in
    false≢true (sym (rw (eq-eqb a b r)) ∙ h)

module _ (s : Set) (ge x ps vs : List ℕ) where
  pub sent-long : length (sent s ge x ps vs) ≡ s.n + s.w
  unfolding sent
  sent-long = length-tab (s.n + s.w) _

  pub sent-at : (j : ℕ) → j < s.n + s.w → get_or (sent s ge x ps vs) j 0 ≡ encoded s ge x j ⊕ error_at ps vs j
  unfolding sent
  sent-at j l = get_or-tab (s.n + s.w) _ j l

  pub sent-el : (j : ℕ) → j < s.n + s.w
      → word s (sent s ge x ps vs) j ≡ plus (field_of s) (pairs-code.encoded (K s) s.k (ge_of s ge) (word s x) j) (E s (error_at ps vs j))
  sent-el j l =
      ap (E s) (sent-at j l) ∙ el-xor (field_of s) (field s) _ _ ∙ ap (λ (a : El (field_of s)). plus (field_of s) a (E s (error_at ps vs j))) (encoded-el s ge x j)

  -- the error has weight at most t
  pub error-weight : Wrong s ps vs → wt (K s) (λ j. E s (error_at ps vs j)) (s.n + s.w) ≤ s.t
  error-weight w =
      omega (arith, w.count, wt-off (K s) (λ j. E s (error_at ps vs j)) (s.n + s.w) (length ps) (λ a. get_or ps a 0) (λ j l o. ap (E s) (error_at-off ps vs j (λ i h e. o i h (sym e)))))

module _ (s : Set) (κ : Private) (x ps vs : List ℕ) (w : Wrong s ps vs) where
  abbrev y : List ℕ
  y = sent s κ.ge x ps vs

  -- ---- recomputing

  pub places-back : error_places s κ x (sent s κ.ge x ps vs) ≡ ps
  unfolding error_places
  places-back =
      passing-once _ (s.n + s.w) ps
      (listed-iff (λ j l. differs _ _ _ (sent-at s κ.ge x ps vs j l)) (λ j l. same _ _ _ (sent-at s κ.ge x ps vs j l)) (errors-listed (s.n + s.w) ps vs w.rising w.below w.nonzero))

  pub values-back : differences s κ x (sent s κ.ge x ps vs) ps ≡ vs
  unfolding differences
  values-back =
      ext_get_or 0 _ vs (length-tab (length ps) _ ∙ w.count ∙ sym w.many)
      (λ i h. let l : i < length ps = rw length-tab at h in
      get_or-tab (length ps) _ i l
      ∙ ap (λ (b : ℕ). encoded s κ.ge x (get_or ps i 0) ⊕ b) (sent-at s κ.ge x ps vs (get_or ps i 0) (w.below i l))
      ∙ add-cancel (encoded s κ.ge x (get_or ps i 0)) (error_at ps vs (get_or ps i 0)) ∙ error_at-at ps vs w.rising i l)

-- ---- opening, of a good pair

pub encoded-lt : (s : Set) (ge x : List ℕ) → ((i : ℕ) → get_or x i 0 < size (field_of s)) → (j : ℕ) → encoded s ge x j < size (field_of s)
unfolding encoded
encoded-lt s ge x small j = go (ltb j s.k)
  where
    go : (b : Bool) → pick b (get_or x j 0) (combined (field_of s) x s.k (λ i. get_or ge (i * (s.n + s.w - s.k) + (j - s.k)) 0)) < size (field_of s)
    go true = small j
    go false = combined-lt s x s.k _

redone-lt : (s : Set) (κ : Private) (c : List ℕ) (j : ℕ) → redone s κ c j < size (field_of s)
unfolding redone
redone-lt s κ c j = mul-lt (field_of s) _ _

module _ (s : Set) (ok : Valid s) (κ : Private) (S : Sound s κ) where
  -- a vector of elements is one of numbers
  pub vector-back : (c x : List ℕ) → length x ≡ s.k → ((i : ℕ) → get_or x i 0 < size (field_of s))
      → good.Vector (K s) (sizes ok) (key_of s κ) (length (places_i s κ)) (λ b. get_or (places_t s κ) b 0) (word s c) (word s x)
      → Vector s κ c x
  unfolding placed
  vector-back c x long small p =
      record {
        long = long;
        small = small;
        reads = λ i l h. el-injective (field_of s) (field s) _ _ (small i) (redone-lt s κ c _) (p.reads i l (unmixed-yes s ok κ i h) ∙ sym (redone-el s ok κ c _));
        solves = λ b l. el-injective (field_of s) (field s) _ _ (encoded-lt s κ.ge x small _) (redone-lt s κ c _) (encoded-el s κ.ge x _ ∙ p.solves b (rw (length-T s ok κ (sound-well ok κ S)) at l) ∙ sym (redone-el s ok κ c _));
      }

  module _ (e : width (field_of s) ≡ s.m) (G : IsGood s ok κ S) (x : List ℕ) where
    -- the key, its places and the points of the code, as `pairs` takes them
    abbrev W : pairs.WellFormed (K s) (sizes ok) (key_of s κ)
    W = sound-well ok κ S

    abbrev u : ℕ
    u = length (places_i s κ)

    abbrev Xs : ℕ → El (field_of s)
    Xs = X (field_of s) (field s)

    P : Points (K s) Xs s.n
    P = alpha-points (field_of s) (field s) s.n (points s e ok)

    -- the word of x without errors, and as elements
    abbrev clean : List ℕ
    clean = tab (s.n + s.w) (encoded s κ.ge x)

    abbrev clean_el : ℕ → El (field_of s)
    clean_el = pairs-code.encoded (K s) s.k (key_of s κ).ge (word s x)

    abbrev back : (ℕ → El (field_of s)) → ℕ → El (field_of s)
    back = pairs.undone (K s) (sizes ok) (key_of s κ)

    clean-el : (j : ℕ) → j < s.n + s.w → word s clean j ≡ clean_el j
    clean-el j l = ap (E s) (get_or-tab (s.n + s.w) _ j l) ∙ encoded-el s κ.ge x j

    abbrev pub code_of : List ℕ
    code_of = undone s κ (tab (s.n + s.w) (encoded s κ.ge x))

    pub code-lands : CodeWord (field_of s) s.n (s.n - s.k) code_of
    code-lands =
        el-lands s ok κ S clean clean_el clean-el
        (word-lands (K s) (sizes ok) Xs P (key_of s κ) W u _ _ (split-IT s ok κ W) G (word s x))

    pub code-near : (ps vs : List ℕ) → Wrong s ps vs → apart s.n (undone s κ (sent s κ.ge x ps vs)) code_of ≤ s.t
    code-near ps vs w =
        let y = sent s κ.ge x ps vs in
        let error : ℕ → El (field_of s) = λ j. E s (error_at ps vs j) in
        let yEl : ℕ → El (field_of s) = λ j. plus (field_of s) (clean_el j) (error j) in
        let far : ℕ → El (field_of s) = λ i. plus (field_of s) (word s (undone s κ y) i) (word s code_of i) in
        let a : apart s.n (undone s κ y) code_of ≤ wt (K s) far s.n = apart-wt (field_of s) (field s) s.n (undone s κ y) code_of (undone-small s ok κ S y) (undone-small s ok κ S clean) in
        let b : wt (K s) far s.n ≡ wt (K s) (λ i. plus (field_of s) (back yEl i) (back clean_el i)) s.n =
        wt-ext (K s) far _ s.n (λ i l. ap₂ (plus (field_of s)) (undone-as s ok κ S y yEl (sent-el s κ.ge x ps vs) i l) (undone-as s ok κ S clean clean_el clean-el i l)) in
        let c : wt (K s) (λ i. plus (field_of s) (back yEl i) (back clean_el i)) s.n ≤ s.t =
        opens-near (K s) (sizes ok) Xs P (key_of s κ) W u _ _ (split-IT s ok κ W) G (word s x) error yEl (error-weight s κ.ge x ps vs w) (λ j l. refl) in
        omega arith

    pub code-vector : length x ≡ s.k → ((i : ℕ) → get_or x i 0 < size (field_of s)) → Vector s κ code_of x
    code-vector long small =
        vector-back code_of x long small
        (vector-ext (K s) (sizes ok) (key_of s κ) u _ _ (split-IT s ok κ W) W (back clean_el) (word s code_of) (word s x)
        (λ i l. sym (undone-as s ok κ S clean clean_el clean-el i l))
        (vector-own (K s) (sizes ok) Xs P (key_of s κ) W u _ _ (split-IT s ok κ W) G (word s x)))
