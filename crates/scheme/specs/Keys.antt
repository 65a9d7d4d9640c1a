-- Both key forms as byte strings, and what is read from a key, well formed or not.
use Rattle.std.specs.Prelude.{◌≡◌, ◌≢◌, true, List, ◌∷◌, ◌++◌, ℕ, ◌+◌, ◌*◌, ◌<◌, get_or, take, drop}
use Rattle.bits.specs.Bits.{packed, elements_at, tail_zero}
use Rattle.bits.specs.Numbers.{numbers16, bytes16}
use Rattle.perm.specs.Perm.{Perm}
use Rattle.sets.specs.declared.Set.{Set}
use Rattle.sets.specs.Valid.{key_elements}

-- Public key: set byte, GE by rows; spare bits zero
unfoldable pub public_key : Set → List ℕ → List ℕ
public_key s ge = s.byte ∷ packed s.m ge

-- what a private key holds
pub record Private : Type 0 where
  -- the inverses of P1 and P2
  pub q1 : List ℕ
  pub q2 : List ℕ
  -- the first column of each inverse block, upper then lower
  pub columns : List ℕ
  -- the inverses of the multipliers
  pub inverses : List ℕ
  pub ge : List ℕ

-- Private key: set byte; inverse of P1, inverse of P2 as 16-bit numbers; the first column of each inverse block (upper, lower); inverses of v; GE; spare bits zero
unfoldable pub private_key : Set → Private → List ℕ
private_key s κ =
    s.byte ∷ (bytes16 κ.q1 ++ (bytes16 κ.q2 ++ packed s.m (κ.columns ++ (κ.inverses ++ κ.ge))))

-- where the elements of a private key begin, in bytes
abbrev pub lists_end : Set → ℕ
lists_end s = 1 + 2 * s.n + 2 * (s.n + s.w)

-- GE, as a public key holds it
unfoldable pub public_ge : Set → List ℕ → List ℕ
public_ge s key = elements_at (key_elements s) s.m key 8

-- a private key of the set's length, read
unfoldable pub read : Set → List ℕ → Private
read s key =
    record {
      q1 = take s.n (numbers16 (drop 1 key));
      q2 = take (s.n + s.w) (numbers16 (drop (1 + 2 * s.n) key));
      columns = elements_at (2 * s.w) s.m key (8 * lists_end s);
      inverses = elements_at s.n s.m key (8 * lists_end s + s.m * (2 * s.w));
      ge = elements_at (key_elements s) s.m key (8 * lists_end s + s.m * (2 * s.w + s.n));
    }

-- a private key is malformed (7) unless: its lists are permutations, no inverse is zero, its spare bits are zero
pub record WellFormed (s : Set) (key : List ℕ) : Type 0 where
  pub first : Perm (read s key).q1
  pub second : Perm (read s key).q2
  pub nonzero : (i : ℕ) → i < s.n → get_or (read s key).inverses i 0 ≢ 0
  pub spare : tail_zero s.m (drop (lists_end s) key) ≡ true
