-- The count of every answer is small: at most 5 windows of a setup, at most 16 blocks of a sealing.
use mathlib.Core.Path.{◌≡◌, refl, ap}
use mathlib.Core.Bool.{Bool, true, false, ◌&&◌}
use mathlib.Core.List.{List, [], ◌∷◌}
use Prim.Native.Nat.{ℕ, ◌+◌, ◌/◌, ◌%◌, ◌≤◌, ◌<◌}
use native.Mathlib.Omega.{arith}
use lib.Dec.{eqb, leb, ltb}
use lib.ListN.{length}
use borrow.Author.Tests.{ltb-true, leb-true}
use Rattle.lists.specs.Loops.{pick}
use Rattle.sets.specs.declared.Set.{Set}
use Rattle.std.specs.Prelude.{Option, Some, None, Ok, Err}
use Rattle.sets.specs.Table.{set_of}
use Rattle.scheme.specs.declared.Refusal.{Refusal}
use Rattle.scheme.specs.declared.Refusal.TheVariants.{WrongLength, NoWindow, ZeroValues, WrongSecret}
use Rattle.scheme.specs.Answers.{Answer, count_of}
use Rattle.scheme.specs.Field.{field_of}
use Rattle.scheme.specs.Matrices.{listed}
use Rattle.linear.specs.Elimination.{eliminated}
use Rattle.scheme.specs.Setup.{Made, made, fails, Found, found, none, usable, permutation2, window, chain, reduced_pair, with_blocks, setup}
use Rattle.scheme.specs.Sealing.{first_fitting, sealed_by, secret_message}
use Rattle.scheme.specs.Calls.{zeroed, SetupEnd, setup_lengths, after_setup, setup_of, setup_ends, SealEnd, seal_lengths, after_seal, seal_of, seal_ends, wrap_of, wrap_ends}
use Rattle.calls.specs.Ends.{setup_end, seal_end}
use Rattle.calls.proofs.Rows.{both}

-- ---- setup
data Few : Made → Type 0 where
  few_made : {p q : List ℕ} {count : ℕ} → count ≤ 5 → Few (made p q count)
  few_fails : {a : Refusal} → Few (fails a)

few-pick : (t : Bool) (x y : Made) → Few x → Few y → Few (pick t x y)
few-pick true x y h g = h
few-pick false x y h g = g

module _ (s : Set) (random : List ℕ) where
  abbrev columns : List ℕ → ℕ → ℕ
  columns A p =
      (eliminated (field_of s) s.k (s.n + s.w) s.k (listed s.k (s.n + s.w) (chain s random A (permutation2 s random p)))).cols

  reduced-few : (A : List ℕ) (p : ℕ) → p < 5 → Few (reduced_pair s random A p)
  unfolding reduced_pair
  reduced-few A p h =
      let n : p + 1 ≤ 5 = omega arith in
      few-pick (ltb (columns A p) s.k) _ _ few_fails (few_made n)

  blocks-few : (f : Found) → Few (with_blocks s random f)
  unfolding with_blocks
  blocks-few none = few_fails
  blocks-few (found A) = go (ltb (window s random) 5) refl
    where
      go : (t : Bool) → ltb (window s random) 5 ≡ t → Few (pick t (reduced_pair s random A (window s random)) (fails NoWindow))
      go true e = reduced-few A (window s random) (ltb-true _ _ e)
      go false e = few_fails

  setup-few : Few (setup s random)
  unfolding setup
  setup-few = few-pick (ltb (length (usable s random)) s.n) _ _ few_fails (blocks-few _)

module _ (random public private work : List ℕ) where
  after-few : (m : Made) → Few m → count_of (after_setup m public private work).answer ≤ 5
  after-few (made p q count) (few_made h) = h
  after-few (fails a) few_fails = omega arith

  setup-of-few : (n : Option Set) → count_of (setup_of n random public private work).answer ≤ 5
  setup-of-few None = omega arith
  setup-of-few (Some s) = go (setup_lengths s (length random) (length public) (length private) (length work))
    where
      go : (t : Bool) → count_of (pick t (after_setup (setup s random) public private work) (setup_end (Err WrongLength) public private work)).answer ≤ 5
      go true = after-few (setup s random) (setup-few s random)
      go false = omega arith

  pub setup-count : (byte : ℕ) (r : Answer) (public' private' work' : List ℕ) → setup_end r public' private' work' ≡ setup_ends byte random public private work → count_of r < 256
  unfolding setup_ends
  setup-count byte r public' private' work' e =
      let q : count_of r ≡ count_of (setup_ends byte random public private work).answer = ap (λ (x : SetupEnd). count_of x.answer) e in
      omega (arith, setup-of-few (set_of byte))

-- ---- sealing and wrapping
module _ (s : Set) (key random msg cipher work : List ℕ) where
  after-seal-few : length random / s.block ≤ 16 → count_of (after_seal s key random msg cipher work).answer ≤ 16
  unfolding after_seal
  after-seal-few h = go (ltb (first_fitting s msg random) (length random / s.block)) refl
    where
      go : (t : Bool) → ltb (first_fitting s msg random) (length random / s.block) ≡ t → count_of (pick t (seal_end (Ok (first_fitting s msg random)) (sealed_by s key msg random (first_fitting s msg random)) (zeroed work)) (seal_end (Err ZeroValues) (zeroed cipher) (zeroed work))).answer ≤ 16
      go true e = omega (arith, ltb-true (first_fitting s msg random) (length random / s.block) e)
      go false e = omega arith

few-blocks : (s : Set) (key random cipher work : ℕ) → seal_lengths s key random cipher work ≡ true → random / s.block ≤ 16
few-blocks s key random cipher work right =
    let (a, p) = both (eqb key s.public) _ right in
    let (b, q) = both (eqb (random % s.block) 0) _ p in
    let (c, u) = both (leb 1 (random / s.block)) _ q in
    let (d, w) = both (leb (random / s.block) 16) _ u in
    leb-true _ _ d

module _ (random msg cipher work : List ℕ) where
  seal-of-few : (n : Option Set) (key : List ℕ) → count_of (seal_of n key random msg cipher work).answer ≤ 16
  seal-of-few None key = omega arith
  seal-of-few (Some s) key = go (seal_lengths s (length key) (length random) (length cipher) (length work) && eqb (length msg) s.k1) refl
    where
      go : (t : Bool) → seal_lengths s (length key) (length random) (length cipher) (length work) && eqb (length msg) s.k1 ≡ t
          → count_of (pick t (after_seal s key random msg cipher work) (seal_end (Err WrongLength) cipher work)).answer ≤ 16
      go true e =
          after-seal-few s key random msg cipher work
          (few-blocks s (length key) (length random) (length cipher) (length work) (both (seal_lengths s (length key) (length random) (length cipher) (length work)) _ e).0)
      go false e = omega arith

  wrap-of-few : (n : Option Set) (key : List ℕ) → count_of (wrap_of n key random msg cipher work).answer ≤ 16
  wrap-of-few None key = omega arith
  wrap-of-few (Some s) key = go (seal_lengths s (length key) (length random) (length cipher) (length work)) (leb 1 (length msg) && leb (length msg) s.k1) refl
    where
      go : (t u : Bool) → seal_lengths s (length key) (length random) (length cipher) (length work) ≡ t
          → count_of (pick t (pick u (after_seal s key random (secret_message s msg) cipher work) (seal_end (Err WrongSecret) cipher work)) (seal_end (Err WrongLength) cipher work)).answer ≤ 16
      go true true e = after-seal-few s key random (secret_message s msg) cipher work (few-blocks s (length key) (length random) (length cipher) (length work) e)
      go true false e = omega arith
      go false u e = omega arith

  seal-few : (key : List ℕ) → count_of (seal_ends key random msg cipher work).answer ≤ 16
  unfolding seal_ends
  seal-few [] = omega arith
  seal-few (b ∷ key) = seal-of-few (set_of b) (b ∷ key)

  wrap-few : (key : List ℕ) → count_of (wrap_ends key random msg cipher work).answer ≤ 16
  unfolding wrap_ends
  wrap-few [] = omega arith
  wrap-few (b ∷ key) = wrap-of-few (set_of b) (b ∷ key)

  module _ (key : List ℕ) (r : Answer) (cipher' work' : List ℕ) where
    pub seal-count : seal_end r cipher' work' ≡ seal_ends key random msg cipher work → count_of r < 256
    seal-count e =
        let q : count_of r ≡ count_of (seal_ends key random msg cipher work).answer = ap (λ (x : SealEnd). count_of x.answer) e in
        omega (arith, seal-few key)

    pub wrap-count : seal_end r cipher' work' ≡ wrap_ends key random msg cipher work → count_of r < 256
    wrap-count e =
        let q : count_of r ≡ count_of (wrap_ends key random msg cipher work).answer = ap (λ (x : SealEnd). count_of x.answer) e in
        omega (arith, wrap-few key)
