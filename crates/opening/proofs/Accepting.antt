-- A vector is accepted exactly if its word differs from the received word in t places and the check bytes are right.
use mathlib.Core.Path.{◌≡◌, sym, ap, ap₂, ◌∙◌}
use mathlib.Core.Bool.{not}
use mathlib.Core.List.{List, ◌++◌}
use Prim.Native.Nat.{ℕ, ◌+◌, ◌-◌, ◌^◌, ◌≤◌, ◌<◌}
use native.Mathlib.Omega.{arith}
use native.Mathlib.Decide.{dec_lt}
use lib.Dec.{eqb}
use lib.ListN.{length, get_or, take, length-take, length-append, get_or-append, get_or-eq_default}
use lib.Pow.{pow_pos}
use lib.Seq.{ext_get_or, get_or-take, take_all, get_or-append_right}
use Rattle.std.specs.Prelude.{⊤, Result, Ok, Err, OnOk, IfErr}
use Rattle.lists.specs.Loops.{tab}
use Rattle.lists.proofs.Tables.{length-tab, get_or-tab}
use Rattle.gf.specs.Field.{◌⊕◌}
use Rattle.gf.proofs.Xor.{add-lt}
use Rattle.bits.specs.Bits.{packed, Small}
use Rattle.bits.specs.Numbers.{bytes16}
use Rattle.sets.specs.declared.Set.{Set}
use Rattle.scheme.specs.Lists.{passing}
use Rattle.scheme.specs.Padding.{Checks, message_of}
use Rattle.scheme.specs.Keys.{Private}
use Rattle.scheme.specs.Sealing.{encoded}
use Rattle.scheme.specs.Opening.{error_places, differences, repadded}
use Rattle.tie.proofs.Passing.{passing-ext, passing-listed}
use Rattle.opening.specs.Listing.{Listed}
use Rattle.opening.specs.Ending.{Accepted}
use Rattle.opening.specs.declared.Failure.{Failure}
use Rattle.opening.specs.declared.Failure.TheVariants.{NotOpened}
use Rattle.opening.proofs.Listing.{listed-all}

on_ok : {T E P Q : Type 0} (r : Result T E) → (P → Q) → OnOk r P → OnOk r Q
on_ok (Ok v) f p = f p
on_ok (Err e) f p = p

if_err : {T E : Type 0} {P Q : E → Type 0} (r : Result T E) → ((e : E) → P e → Q e) → IfErr r P → IfErr r Q
if_err (Ok v) f p = p
if_err (Err e) f p = f e p

module _ (s : Set) (κ : Private) (sent y : List ℕ) (long : length sent ≡ s.n + s.w) (enc : (j : ℕ) → j < length sent → get_or sent j 0 ≡ encoded s κ.ge (take s.k sent) j) where
  abbrev x : List ℕ
  x = take s.k sent

  errors : (out : List ℕ) (r : ℕ) → Listed (passing (λ j. not (eqb (get_or sent j 0) (get_or y j 0))) 0 (s.n + s.w - 0)) out r → Listed (error_places s κ x y) out r
  unfolding error_places
  errors out r C =
      let n : s.n + s.w - 0 ≡ s.n + s.w = omega arith in
      let D : Listed (passing (λ j. not (eqb (get_or sent j 0) (get_or y j 0))) 0 (s.n + s.w)) out r = rw n at C in
      rw (passing-ext _ _ 0 (s.n + s.w) (λ j p q. ap (λ (z : ℕ). not (eqb z (get_or y j 0))) (enc j (omega arith)))) at D

  pub errors_listed : (out : List ℕ) (r : ℕ) → Listed (passing (λ j. not (eqb (get_or sent j 0) (get_or y j 0))) 0 (s.n + s.w - 0)) out r → r ≡ length out → out ≡ error_places s κ (take s.k sent) y
  errors_listed out r C e = sym (take_all r out (omega arith)) ∙ listed-all (error_places s κ x y) out r (errors out r C) (omega arith)

  pub errors_counted : (out : List ℕ) (r : ℕ) → Listed (passing (λ j. not (eqb (get_or sent j 0) (get_or y j 0))) 0 (s.n + s.w - 0)) out r → r ≡ length (error_places s κ (take s.k sent) y)
  errors_counted out r C = (errors out r C).count

  module _ (places : List ℕ) (ep : places ≡ error_places s κ (take s.k sent) y) where
    pub errors_low : (i : ℕ) → i < length places → get_or places i 0 < length sent
    unfolding error_places
    errors_low = rw (long, ep) low
      where
        low : (i : ℕ) → i < length (error_places s κ x y) → get_or (error_places s κ x y) i 0 < s.n + s.w
        low i h = omega (arith, (passing-listed (λ j. not (eqb (encoded s κ.ge x j) (get_or y j 0))) 0 (s.n + s.w)).under i h)

    module _ (p : List ℕ) (es : p ≡ repadded s κ (take s.k sent) y) (many : length places ≡ s.t) (r : Result ⊤ Failure) where
      pub accepted_as : OnOk r (Checks s p (bytes16 places)) → OnOk r (Accepted s κ (take s.k sent) y)
      accepted_as h =
          let n : length (error_places s κ x y) ≡ s.t = rw ep at many in
          on_ok r (λ k. record { exactly = n; checks = k }) (rw (es, ep) at h)

      pub message_as : (message : List ℕ) → OnOk r (message ≡ message_of s p (bytes16 places)) → OnOk r (message ≡ message_of s (repadded s κ (take s.k sent) y) (bytes16 (error_places s κ (take s.k sent) y)))
      message_as message h = rw (es, ep) at h

      pub refused_as : IfErr r (λ e. (e ≡ NotOpened) × (Checks s p (bytes16 places) → ⊥)) → IfErr r (λ e. (e ≡ NotOpened) × (Accepted s κ (take s.k sent) y → ⊥))
      refused_as h = if_err r (λ e k. (k.0, λ a. k.1 a.checks)) (rw (es, ep) at h)

    module _ (front values : List ℕ) (ef : front ≡ take s.k sent) (ev : (i : ℕ) → i < length values → get_or values i 0 ≡ get_or sent (get_or places i 0) 0 ⊕ get_or y (get_or places i 0) 0)
        (many : length values ≡ length places) where
      values-are : values ≡ differences s κ x y (error_places s κ x y)
      unfolding differences
      values-are =
          rw ep at (ext_get_or 0 values (tab (length places) (λ i. encoded s κ.ge x (get_or places i 0) ⊕ get_or y (get_or places i 0) 0)) (many ∙ sym (length-tab (length places) _))
          (λ i h. let g : i < length places = omega arith in
          ev i h ∙ ap (λ (z : ℕ). z ⊕ get_or y (get_or places i 0) 0) (enc (get_or places i 0) (errors_low i g)) ∙ sym (get_or-tab (length places) _ i g)))

      pub string_is : packed s.m (front ++ values) ≡ repadded s κ (take s.k sent) y
      unfolding repadded
      string_is = ap₂ (λ (a b : List ℕ). packed s.m (a ++ b)) ef values-are

      pub string_small : Small s.m sent → Small s.m y → Small s.m (front ++ values)
      string_small a b i = go (dec_lt i (length front)) (dec_lt i (length front + length values))
        where
          front-small : (j : ℕ) → j < length front → get_or front j 0 < 2 ^ s.m
          front-small j h = rw ef (of (dec_lt j s.k))
            where
              of : Dec (j < s.k) → get_or (take s.k sent) j 0 < 2 ^ s.m
              of (yes g) = rw (get_or-take s.k sent j 0 g) (a j)
              of (no n) =
                  let past : length (take s.k sent) ≤ j = omega (arith, length-take s.k sent) in rw get_or-eq_default (pow_pos s.m)

          go : Dec (i < length front) → Dec (i < length front + length values) → get_or (front ++ values) i 0 < 2 ^ s.m
          go (yes h) d = rw (get_or-append front values 0 i h) (front-small i h)
          go (no n) (yes h) =
              rw (get_or-append_right front values i 0 (omega arith), ev (i - length front) (omega arith)) (add-lt s.m _ _ (a _) (b _))
          go (no n) (no o) =
              let past : length (front ++ values) ≤ i = omega (arith, length-append front values) in rw get_or-eq_default (pow_pos s.m)
