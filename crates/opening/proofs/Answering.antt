-- What opening answers after each of its stages, with a key that is prepared.
use mathlib.Core.Path.{◌≡◌, sym, subst, ◌∙◌}
use mathlib.Core.Bool.{Bool, true, false, false≢true}
use mathlib.Core.List.{List}
use Prim.Native.Nat.{ℕ, ◌+◌, ◌-◌, ◌^◌, ◌≤◌, ◌<◌}
use native.Mathlib.Omega.{arith}
use native.Mathlib.Decide.{dec_lt}
use lib.ListN.{length, get_or, take, get_or-eq_default}
use Rattle.std.specs.Prelude.{⊤, Result, Ok, Err, OnOk, IfErr, IsErr}
use Rattle.gf.specs.Field.{width, size}
use Rattle.gf.specs.Ten.{ten}
use Rattle.bits.specs.Bits.{elements, elements_in, tail_zero, Small}
use Rattle.bits.specs.Numbers.{bytes16}
use Rattle.bits.proofs.Packing.{elements_in-bytes_for}
use Rattle.code.specs.Decoding.{Near}
use Rattle.code.proofs.Distance.{near-once}
use Rattle.sets.specs.declared.Set.{Set}
use Rattle.sets.specs.Valid.{Valid}
use Rattle.scheme.specs.Field.{field_of}
use Rattle.scheme.specs.Padding.{message_of}
use Rattle.scheme.specs.Keys.{Private, WellFormed, read}
use Rattle.scheme.specs.Sealing.{encoded}
use Rattle.scheme.specs.Opening.{Vector, Opens, undone, error_places, repadded}
use Rattle.scheme.specs.Opening as Opening
use Rattle.tie.proofs.Bridge.{field}
use Rattle.opening.specs.Given.{KeyGiven}
use Rattle.opening.specs.Ending.{Accepted, KeyFails, OpenFails, OpensAs}
use Rattle.opening.specs.declared.Failure.{Failure}
use Rattle.opening.specs.declared.Failure.TheVariants.{Malformed, Singular, NotOpened}
use Rattle.opening.specs.declared.prepare.PreparedKey.{PreparedKey}
use Rattle.opening.proofs.Keyed.{given}
use Rattle.opening.proofs.Permuting.{formed_of}
use Rattle.opening.proofs.Regular.{regular}
use Rattle.opening.proofs.Once.{apart-turn, near, points, vector-one}
use Rattle.opening.proofs.Solved.{encoded-low, encoded-lt}

-- the ciphertext holds n + w elements
pub cipher_elements : (s : Set) (cipher : List ℕ) → Valid s → length cipher ≡ s.cipher → elements_in s.m (length cipher) ≡ s.n + s.w
cipher_elements s cipher ok e = rw (e, ok.cipher_is) (elements_in-bytes_for s.m (s.n + s.w) ok.narrow)

-- a key that fails opens nothing
pub key_fails : (s : Set) (key cipher : List ℕ) (e : Failure) → KeyFails s key e → OpenFails s key cipher e
key_fails s key cipher Malformed h = h
key_fails s key cipher Singular h = h
key_fails s key cipher NotOpened h = absurd h

-- the elements of a vector's word are below 2 ^ m
pub sent-small : (s : Set) (κ : Private) → s.m ≡ width (field_of s) → (c sent : List ℕ) → Vector s κ c (take s.k sent)
    → ((j : ℕ) → j < length sent → get_or sent j 0 ≡ encoded s κ.ge (take s.k sent) j) → Small s.m sent
sent-small s κ w c sent v e j = subst (λ (b : ℕ). get_or sent j 0 < 2 ^ b) (sym w) (go (dec_lt j (length sent)))
  where
    of : Dec (j < s.k) → encoded s κ.ge (take s.k sent) j < size ten
    of (yes h) = rw (encoded-low s κ.ge (take s.k sent) j h) (v.small j)
    of (no d) = encoded-lt s κ.ge (take s.k sent) j (omega arith)

    go : Dec (j < length sent) → get_or sent j 0 < size ten
    go (yes h) = rw (e j h) (of (dec_lt j s.k))
    go (no d) = let past : length sent ≤ j = omega arith in rw get_or-eq_default (omega arith)

-- a refusal
pub opens_err : (s : Set) (key cipher msg : List ℕ) (r : Result ⊤ Failure) → IsErr r → IfErr r (OpenFails s key cipher) → OpensAs s key cipher r msg
opens_err s key cipher msg (Err e) i h = h
opens_err s key cipher msg (Ok v) i h = absurd (false≢true i)

module _ (P : PreparedKey) where
  abbrev s : Set
  s = P.key.parameters.set

  abbrev key : List ℕ
  key = P.key.bytes.now

  abbrev κ : Private
  κ = read s key

  abbrev G : KeyGiven s key
  G = given P.key

  wf : WellFormed s key
  wf = formed_of s key P.formed

  -- W is regular
  not-singular : Opening.Singular s κ → ⊥
  not-singular = regular s κ P.matrix.now (rw P.mixed_is at P.inverse)

  module _ (cipher : List ℕ) where
    abbrev y : List ℕ
    y = elements s.m cipher

    nothing : ((m : List ℕ) → Opens s key cipher m → ⊥) → OpenFails s key cipher NotOpened
    nothing none = (wf, not-singular, none)

    -- a spare bit is set
    pub spare_not : (b : Bool) → b ≡ tail_zero s.m cipher → b ≡ false → OpenFails s key cipher NotOpened
    spare_not b d e = nothing (λ m O. false≢true (sym e ∙ d ∙ O.spare))

    -- where a message is opened, its code word is near
    opened-near : (m : List ℕ) (O : Opens s key cipher m) → Near ten s.n s.t (undone s κ y) O.code
    opened-near m O = near s key G wf not-singular cipher O.code O.word O.near

    -- no code word is near
    pub none_not : (e : Failure) → (e ≡ NotOpened) × ((c : List ℕ) → Near ten s.n s.t (undone s κ y) c → ⊥) → OpenFails s key cipher e
    none_not e (q, none) = rw q (nothing (λ m O. none O.code (opened-near m O)))

    module _ (c x : List ℕ) (near-c : Near ten s.n s.t (undone s κ y) c) (v : Vector s κ c x) where
      -- it is the code word that was found, and its vector the one that was found
      opened-vector : (m : List ℕ) (O : Opens s key cipher m) → O.x ≡ x
      opened-vector m O =
          let e : O.code ≡ c = near-once (field s) s.n (points s key G wf not-singular) s.t (undone s κ y) O.code c (opened-near m O) near-c in
          vector-one s key G wf not-singular c O.x x (rw e at O.vector) v

      accepted-opens : (b : Bool) → b ≡ tail_zero s.m cipher → b ≡ true → Accepted s κ x y → (msg : List ℕ)
          → msg ≡ message_of s (repadded s κ x y) (bytes16 (error_places s κ x y)) → Opens s key cipher msg
      accepted-opens b d t A msg e =
          let h : s.t + s.t ≡ s.n - s.k = omega (arith, G.valid.code) in
          record {
            spare = sym d ∙ t;
            code = c;
            word = rw h at near-c.code;
            near = rw (apart-turn s.n (undone s κ y) c) near-c.close;
            x = x;
            vector = v;
            exactly = A.exactly;
            checks = A.checks;
            message = e;
          }

      pub finished : (b : Bool) → b ≡ tail_zero s.m cipher → b ≡ true → (msg : List ℕ) (r : Result ⊤ Failure) → OnOk r (Accepted s κ x y)
          → OnOk r (msg ≡ message_of s (repadded s κ x y) (bytes16 (error_places s κ x y)))
          → IfErr r (λ e. (e ≡ NotOpened) × (Accepted s κ x y → ⊥)) → OpensAs s key cipher r msg
      finished b d t msg (Ok v) A e n = (wf, not-singular, accepted-opens b d t A msg e)
      finished b d t msg (Err f) A e (q, n) =
          rw q
          (nothing
          (λ m O. let w : O.x ≡ x = opened-vector m O in
          n (record { exactly = rw w at O.exactly; checks = rw w at O.checks })))

  -- the same, of the elements as they were unpacked
  module _ (cipher y : List ℕ) (ey : y ≡ elements P.key.parameters.set.m cipher) where
    pub none_as : (e : Failure) → (e ≡ NotOpened) × ((c : List ℕ) → Near ten s.n s.t (undone s κ y) c → ⊥) → OpenFails s key cipher e
    none_as = rw ey (none_not cipher)

    pub finished_as : (c x : List ℕ) → Near ten s.n s.t (undone s κ y) c → Vector s κ c x → (b : Bool) → b ≡ tail_zero s.m cipher → b ≡ true → (msg : List ℕ) (r : Result ⊤ Failure)
        → OnOk r (Accepted s κ x y) → OnOk r (msg ≡ message_of s (repadded s κ x y) (bytes16 (error_places s κ x y)))
        → IfErr r (λ e. (e ≡ NotOpened) × (Accepted s κ x y → ⊥)) → OpensAs s key cipher r msg
    finished_as = rw ey (finished cipher)
