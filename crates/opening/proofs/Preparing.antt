-- W is singular just where its elimination stops; else its inverse stands beside it.
use mathlib.Core.Path.{◌≡◌, refl, sym, ap, ap₂, ◌∙◌}
use mathlib.Core.List.{List}
use Prim.Native.Nat.{ℕ, ◌+◌, ◌-◌, ◌*◌, ◌≤◌, ◌<◌}
use native.Mathlib.Omega.{arith}
use lib.ListN.{length, get_or, take}
use lib.Seq.{length-take-le}
use Rattle.theory.specs.Word.{NonZero}
use Rattle.theory.specs.Matrix.{Row, comb, LeftKer}
use Rattle.theory.proofs.Sum.{sum-ext}
use Rattle.gf.specs.Field.{size}
use Rattle.gf.specs.Ten.{ten}
use Rattle.gf.proofs.Elements.{times, el-injective}
use Rattle.linear.specs.Matrix.{entry}
use Rattle.linear.specs.Inverse.{LeftHalf, inverted}
use Rattle.linear.proofs.Inverted.{found_left, singular-left}
use Rattle.pairs.specs.Good as good
use Rattle.sets.specs.declared.Set.{Set}
use Rattle.scheme.specs.Keys.{Private, WellFormed, read}
use Rattle.scheme.specs.Opening as Opening
use Rattle.scheme.specs.Opening.{places_i, places_t, W}
use Rattle.tie.proofs.Bridge.{field, K, E, key_of}
use Rattle.tie.proofs.Regular as tie
use Rattle.opening.specs.Given.{KeyGiven}
use Rattle.opening.specs.Inverse.{HoldsInverse}
use Rattle.opening.proofs.Parting.{parts, few-mixed, as-many, ge-small}
use Rattle.opening.proofs.RowSums.{row_sum-el, row_sum-lt, el-identity, identity-lt}

pub as_many_of : (s : Set) (key : List ℕ) (u : ℕ) (mixed : List ℕ) → take u mixed ≡ places_i s (read s key) → u ≤ length mixed → u ≡ length (places_i s (read s key))
as_many_of s key u mixed e h = sym (length-take-le u mixed h) ∙ ap length e

module _ (s : Set) (key : List ℕ) (G : KeyGiven s key) (wf : WellFormed s key) (mixed plain : List ℕ)
    (em : mixed ≡ places_i s (read s key)) (ep : plain ≡ places_t s (read s key)) where
  abbrev κ : Private
  κ = read s key

  pub lengths : length mixed ≡ length plain
  lengths = rw (em, ep) (sym (as-many s key G wf))

  pub few : length mixed ≤ s.k
  few = rw em (few-mixed s key G wf)

  pub small : length mixed < 65536
  small = omega (arith, few, G.valid.places, G.valid.room, G.valid.some_w)

  pub mixed-in : (a : ℕ) → a < length mixed → get_or mixed a 0 < s.k
  mixed-in = rw em (λ a h. (parts s key G wf).solved.under a h)

  pub plain-in : (b : ℕ) → b < length plain → (s.k ≤ get_or plain b 0) × (get_or plain b 0 < s.k + (s.n + s.w - s.k))
  plain-in = rw ep plain_of
    where
      plain_of : (b : ℕ) → b < length (places_t s κ) → (s.k ≤ get_or (places_t s κ) b 0) × (get_or (places_t s κ) b 0 < s.k + (s.n + s.w - s.k))
      plain_of b h =
          let g : b < length (places_i s κ) = omega (arith, as-many s key G wf) in
          let p = parts s key G wf in
          (p.high b g, omega (arith, p.high b g, p.low b g))

  module _ (ge matrix : List ℕ) (eg : ge ≡ (read s key).ge) (long : length matrix ≡ length mixed * (length mixed + length mixed))
      (filled : (a b : ℕ) → a < length mixed → b < length mixed → get_or matrix (a * (length mixed + length mixed) + b) 0 ≡ get_or ge (get_or mixed a 0 * (s.n + s.w - s.k) + (get_or plain b 0 - s.k)) 0) where
    cell : (a b : ℕ) → a < length mixed → b < length mixed → get_or matrix (a * (length mixed + length mixed) + b) 0 ≡ W s κ a b
    unfolding W
    cell a b ha hb = filled a b ha hb ∙ rw (eg, em, ep) refl

    W-small : (a b : ℕ) → W s κ a b < size ten
    unfolding W
    W-small a b = ge-small s key G wf _

    pub left : LeftHalf ten (length mixed) matrix
    left = record { fits = omega arith; small = λ a b ha hb. rw (cell a b ha hb) (W-small a b) }

    abbrev u : ℕ
    u = length mixed

    pub holds : (inverted ten (length mixed) matrix).cols ≡ length mixed → (m : List ℕ) → m ≡ (inverted ten (length mixed) matrix).mat → length m ≡ length matrix → HoldsInverse s (read s key) (length mixed) m
    holds done m e same =
        record {
          long = same ∙ long;
          inverse = λ b d hb hd.
              el-injective ten (field s) _ _ (row_sum-lt _ u _) (identity-lt b d)
              (row_sum-el s _ u _
              ∙ sum-ext (K s) _ _ u (λ j h. ap₂ (times ten) (ap (λ (x : List ℕ). E s (get_or x (b * (u + u) + (u + j)) 0)) e) (ap (E s) (sym (cell j d h hd))))
              ∙ found_left ten (field s) u matrix left done b d hb hd ∙ sym (el-identity s b d));
        }

    pub fails : (inverted ten (length mixed) matrix).cols < length mixed → Opening.Singular s (read s key)
    unfolding comb W
    fails short = go (singular-left ten (field s) u matrix left short)
      where
        go : (y : Row (K s)) × NonZero (K s) u y × LeftKer (K s) u u (λ i j. E s (entry (u + u) matrix i j)) y → Opening.Singular s κ
        go (y, o, z) =
            let e : length mixed ≡ length (places_i s κ) = ap length em in
            let kernel : LeftKer (K s) u u (good.W (K s) s.k (key_of s κ).ge (λ a. get_or (places_i s κ) a 0) (λ b. get_or (places_t s κ) b 0)) y =
            λ b h. sum-ext (K s) _ _ u (λ a g. ap (times ten (y a)) (ap (E s) (sym (cell a b g h)))) ∙ z b h in
            tie.singular s κ y (rw e at o) (rw e at kernel)
