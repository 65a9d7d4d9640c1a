-- Every set of the table is valid: one test, computed for each row.
use mathlib.Core.Path.{◌≡◌, refl, sym}
use mathlib.Core.Logic.{◌≢◌}
use mathlib.Core.Bool.{Bool, true, false, ◌&&◌}
use Rattle.std.specs.Prelude.{Some, None}
use mathlib.Core.List.{List, [], ◌∷◌}
use Prim.Native.Nat.{ℕ, ◌+◌, ◌-◌, ◌*◌, ◌^◌}
use lib.Dec.{T, eqb, leb, ltb, eqb→eq, leb→le, ltb→lt}
use native.Mathlib.Omega.{arith}
use native.Mathlib.Decide.{ℕ_discrete}
use borrow.Author.Tests.{eq-eqb, ne_eqb}
use Rattle.bits.specs.Bits.{bytes_for}
use Rattle.sets.specs.declared.Set.{Set}
use Rattle.sets.specs.Table.{set6, set1, set_of}
use Rattle.sets.specs.Valid.{Valid, setup_elements, key_elements}

-- ---- the table by cases
module _ (byte : ℕ) where
  pub of-0x16 : (s : Set) → byte ≡ 0x16 → s ≡ set6 → Some s ≡ set_of byte
  unfolding set_of
  of-0x16 s e q = rw (eq-eqb byte 0x16 e, q)

  pub of-0x11 : (s : Set) → byte ≢ 0x16 → byte ≡ 0x11 → s ≡ set1 → Some s ≡ set_of byte
  unfolding set_of
  of-0x11 s d e q = rw (ne_eqb byte 0x16 d, eq-eqb byte 0x11 e, q)

  pub of_none : byte ≢ 0x16 → byte ≢ 0x11 → None ≡ set_of byte
  unfolding set_of
  of_none d e = rw (ne_eqb byte 0x16 d, ne_eqb byte 0x11 e)

-- ---- one test that is computed, and what it says
all : List Bool → Bool
all [] = true
all (b ∷ bs) = b && all bs

Each : List Bool → Type 0
Each [] = Unit
Each (b ∷ bs) = T b × Each bs

each : (bs : List Bool) → T (all bs) → Each bs
unfolding all Each
each [] h = tt
each (true ∷ bs) h = (tt, each bs h)
each (false ∷ bs) h = absurd h

-- the facts of `Valid`, in its order
tests : Set → List Bool
tests s =
    eqb s.n (s.k + (s.t + s.t)) ∷
    ltb 0 s.k ∷
    ltb 0 s.t ∷
    ltb 0 s.w ∷
    leb (s.k + s.w) s.n ∷
    leb 8 s.m ∷
    leb s.m 16 ∷
    ltb s.n (2 ^ s.m) ∷
    leb (s.n + s.w) 65536 ∷
    eqb (s.k1 + s.k2 + s.k3) (bytes_for s.m (s.k + s.t)) ∷
    ltb 0 s.k1 ∷
    ltb 0 s.k2 ∷
    ltb 0 s.k3 ∷
    eqb s.public (1 + bytes_for s.m (key_elements s)) ∷
    eqb s.private (1 + 2 * s.n + 2 * (s.n + s.w) + bytes_for s.m (2 * s.w + s.n + key_elements s)) ∷
    eqb s.cipher (bytes_for s.m (s.n + s.w)) ∷
    eqb s.random (bytes_for s.m (setup_elements s) + 2 * (s.n - 1) + 2 * (s.n + s.w - 1) + 4) ∷
    eqb s.block (s.k3 + 2 * s.t) ∷
    eqb s.work (4 * s.n * (s.n + s.w)) ∷
    ltb s.work (2 ^ 32) ∷ []

passed : (s : Set) → T (all (tests s)) → Valid s
unfolding tests all Each
passed s h = go (each (tests s) h)
  where
    go : Each (tests s) → Valid s
    go (code, (some-k, (some-t, (some-w, (room, (narrow, (wide, (points, (places, (padded, (some-message, (some-check, (some-seed, (public-is, (private-is, (cipher-is, (random-is, (block-is, (work-is, (small, end)))))))))))))))))))) =
        record {
          code = eqb→eq _ _ code;
          some_k = ltb→lt _ _ some-k;
          some_t = ltb→lt _ _ some-t;
          some_w = ltb→lt _ _ some-w;
          room = leb→le _ _ room;
          narrow = leb→le _ _ narrow;
          wide = leb→le _ _ wide;
          points = ltb→lt _ _ points;
          places = leb→le _ _ places;
          padded = eqb→eq _ _ padded;
          some_message = ltb→lt _ _ some-message;
          some_check = ltb→lt _ _ some-check;
          some_seed = ltb→lt _ _ some-seed;
          public_is = eqb→eq _ _ public-is;
          private_is = eqb→eq _ _ private-is;
          cipher_is = eqb→eq _ _ cipher-is;
          random_is = eqb→eq _ _ random-is;
          block_is = eqb→eq _ _ block-is;
          work_is = eqb→eq _ _ work-is;
          small = ltb→lt _ _ small;
        }

valid6 : Valid set6
unfolding tests all
valid6 = passed set6 tt

valid1 : Valid set1
unfolding tests all
valid1 = passed set1 tt

-- a set that is known is valid, and its byte is the one that names it
pub record Fit (byte : ℕ) (s : Set) : Type 0 where
  pub valid : Valid s
  pub names : s.byte ≡ byte

pub known : (byte : ℕ) (s : Set) → set_of byte ≡ Some s → Fit byte s
known byte s e = go (ℕ_discrete byte 0x16) (ℕ_discrete byte 0x11)
  where
    go : Dec (byte ≡ 0x16) → Dec (byte ≡ 0x11) → Fit byte s
    go (yes q) d =
        let same : s ≡ set6 = cc (of-0x16 byte set6 q refl) in
        rw same (record { valid = valid6; names = sym q })
    go (no n) (yes q) =
        let same : s ≡ set1 = cc (of-0x11 byte set1 n q refl) in
        rw same (record { valid = valid1; names = sym q })
    go (no n) (no o) = absurd (let z : ◌≡◌ {A = ℕ} 0 1 = cc (of_none byte n o) in omega arith)
