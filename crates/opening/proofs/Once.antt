-- A ciphertext opens to one message at most: there is one code word within t places, and one vector that goes with it.
use mathlib.Core.Path.{◌≡◌, refl, sym, ap₂, ◌∙◌}
use mathlib.Core.List.{List}
use Prim.Native.Nat.{ℕ, zero, suc, ◌+◌, ◌-◌, ◌≤◌}
use native.Mathlib.Omega.{arith}
use lib.ListN.{length, get_or}
use lib.Seq.{ext_get_or}
use borrow.Author.Tests.{eq-eqb, ne_eqb}
use Rattle.theory.proofs.Place.{at-or}
use Rattle.gf.specs.Field.{order}
use Rattle.gf.specs.Ten.{ten}
use Rattle.gf.proofs.Elements.{el-injective}
use Rattle.bits.specs.Bits.{elements}
use Rattle.code.specs.Words.{CodeWord, apart}
use Rattle.code.specs.Decoding.{Near}
use Rattle.code.proofs.Distance.{near-once}
use Rattle.sets.specs.declared.Set.{Set}
use Rattle.scheme.specs.Keys.{Private, WellFormed, read}
use Rattle.scheme.specs.Opening.{Singular, Opens, Vector, undone, places_i}
use Rattle.pairs.proofs.Opening.{vector-once}
use Rattle.tie.proofs.Bridge.{field, K, word, sizes, key_of}
use Rattle.tie.proofs.Regular.{regular-el}
use Rattle.tie.proofs.Splitting.{split-IT, vector-el}
use Rattle.opening.specs.Given.{KeyGiven}
use Rattle.opening.proofs.Parting.{well}

pub apart-turn : (n : ℕ) (a b : List ℕ) → apart n a b ≡ apart n b a
unfolding apart
apart-turn zero a b = refl
apart-turn (suc n) a b = ap₂ (λ (x y : ℕ). x + y) (apart-turn n a b) (at-or (get_or a n 0) (get_or b n 0)
    (λ e. rw (eq-eqb (get_or a n 0) (get_or b n 0) e, eq-eqb (get_or b n 0) (get_or a n 0) (sym e)))
    (λ d. rw (ne_eqb (get_or a n 0) (get_or b n 0) d, ne_eqb (get_or b n 0) (get_or a n 0) (λ e. d (sym e)))))

module _ (s : Set) (key : List ℕ) (G : KeyGiven s key) (wf : WellFormed s key) (regular : Singular s (read s key) → ⊥) where
  abbrev κ : Private
  κ = read s key

  -- one vector goes with a word
  pub vector-one : (c x x' : List ℕ) → Vector s κ c x → Vector s κ c x' → x ≡ x'
  vector-one c x x' p q =
      ext_get_or 0 x x' (p.long ∙ sym q.long)
      (λ i h. el-injective ten (field s) _ _ (p.small i) (q.small i)
      (vector-once (K s) (sizes G.valid) (key_of s κ) (length (places_i s κ)) _ _ (split-IT s G.valid κ (well s key G wf)) (regular-el s κ regular) (word s c) (word s x) (word s x')
      (vector-el s G.valid κ (well s key G wf) c x p) (vector-el s G.valid κ (well s key G wf) c x' q) i (omega (arith, p.long))))

  pub near : (cipher c : List ℕ) → CodeWord ten s.n (s.n - s.k) c → apart s.n (undone s κ (elements s.m cipher)) c ≤ s.t → Near ten s.n s.t (undone s κ (elements s.m cipher)) c
  near cipher c w h =
      let e : s.n - s.k ≡ s.t + s.t = omega (arith, G.valid.code) in
      record { code = rw e at w; close = rw (apart-turn s.n c (undone s κ (elements s.m cipher))) h }

  pub points : s.n ≤ order ten
  points = omega (arith, rw G.element at G.valid.points)

  -- THEOREM (opens, once). Two messages that one ciphertext opens to are equal.
  pub opens-once : (cipher m m' : List ℕ) → Opens s key cipher m → Opens s key cipher m' → m ≡ m'
  opens-once cipher m m' p q =
      let c : p.code ≡ q.code = near-once (field s) s.n points s.t _ p.code q.code (near cipher p.code p.word p.near) (near cipher q.code q.word q.near) in
      let x : p.x ≡ q.x = vector-one q.code p.x q.x (rw c at p.vector) q.vector in
      p.message ∙ rw x (sym q.message)
