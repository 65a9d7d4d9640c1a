-- The table of sets. The last columns are the lengths of what is lent.
use Rattle.std.specs.Prelude.{ℕ, eqb, Option, Some, None}
use Rattle.lists.specs.Loops.{pick}
use Rattle.sets.specs.declared.Set.{Set}

abbrev pub row : ℕ → ℕ → ℕ → ℕ → ℕ → ℕ → ℕ → ℕ → ℕ → ℕ → ℕ → ℕ → ℕ → ℕ → ℕ → ℕ → ℕ → Set
row byte number n k t w m k1 k2 k3 u0 public private cipher random block work =
    record {
      byte = byte;
      number = number;
      n = n;
      k = k;
      t = t;
      w = w;
      m = m;
      k1 = k1;
      k2 = k2;
      k3 = k3;
      u0 = u0;
      public = public;
      private = private;
      cipher = cipher;
      random = random;
      block = block;
      work = work;
    }

-- byte, set, n, k, t, w, m, k1, k2, k3, u0; bytes of public key, private key, ciphertext; random bytes, block, work area
abbrev pub set6 : Set
set6 = row 0x16 6 40 20 10 5 10 30 4 4 7 626 859 57 402 24 7200

abbrev pub set1 : Set
set1 = row 0x11 1 532 376 78 96 10 504 32 32 123 118441 121666 785 48617 188 1336384

-- the set that a set byte names
unfoldable pub set_of : ℕ → Option Set
set_of byte = pick (eqb byte 0x16) (Some set6) (pick (eqb byte 0x11) (Some set1) None)
