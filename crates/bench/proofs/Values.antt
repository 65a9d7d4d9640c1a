-- The whole table is one test that is computed; the values by name are taken from it.
use mathlib.Core.Path.{◌≡◌, refl, sym, ap, ◌∙◌}
use mathlib.Core.Bool.{Bool, true, false, ◌&&◌}
use mathlib.Core.List.{List, [], ◌∷◌}
use Prim.Native.Nat.{ℕ}
use lib.Dec.{T, eqb, eqb→eq}
use Rattle.lists.specs.Loops.{tab, turns}
use Rattle.gf.specs.Field.{mul, act, times_x}
use Rattle.bits.specs.Bits.{bits_of, bits, value, grouped, elements, packed}
use Rattle.perm.specs.Perm.{inverted}
use Rattle.perm.specs.Shuffle.{identity, swapped, shuffled}
use Rattle.scheme.specs.Setup.{Found, found, none, blocks}
use Rattle.bench.specs.Table.{Line, elements_of, table, Holds, BenchValues}

same : List ℕ → List ℕ → Bool
same [] [] = true
same [] (y ∷ ys) = false
same (x ∷ xs) [] = false
same (x ∷ xs) (y ∷ ys) = eqb x y && same xs ys

both : (a b : Bool) → T (a && b) → T a × T b
both true b h = (tt, h)
both false b h = absurd h

same-eq : (xs ys : List ℕ) → T (same xs ys) → xs ≡ ys
unfolding same
same-eq [] [] h = refl
same-eq [] (y ∷ ys) h = absurd h
same-eq (x ∷ xs) [] h = absurd h
same-eq (x ∷ xs) (y ∷ ys) h =
    let p = both (eqb x y) (same xs ys) h in
    rw (eqb→eq x y p.0, same-eq xs ys p.1)

-- the one test
test : List Line → Bool
test [] = true
test (l ∷ ls) = same l.given l.stated && test ls

tested : (ls : List Line) → T (test ls) → Holds ls
unfolding test
tested [] h = tt
tested (l ∷ ls) h =
    let p = both (same l.given l.stated) (test ls) h in
    (same-eq l.given l.stated p.0, tested ls p.1)

-- THEOREM: all the known values
pub table-holds : (b : ℕ) → Holds (table b)
unfolding table test same mul act times_x bits_of bits value grouped elements packed tab turns inverted identity swapped shuffled blocks
table-holds b = tested (table b) tt

only : {x y : ℕ} → x ∷ [] ≡ y ∷ [] → x ≡ y
only e = cc

search-found : (f : Found) (x : ℕ) (l : List ℕ) → elements_of f ≡ x ∷ l → f ≡ found (x ∷ l)
search-found (found k) x l e = ap found e
search-found none x l e = cc

-- THEOREM: the same by name, each from its line
pub bench-values : BenchValues
unfolding table
bench-values = go (table-holds 0) (λ b. one_byte b (table-holds b))
  where
    one_byte : (b : ℕ) → Holds (table b) → elements 10 (b ∷ []) ≡ []
    one_byte b (_, (_, (_, (_, (_, (_, (_, (_, (_, (e, _)))))))))) = e

    go : Holds (table 0) → ((b : ℕ) → elements 10 (b ∷ []) ≡ []) → BenchValues
    go (p1, (p2, (p3, (p4, (p5, (bytes, (back, (two, (nothing, (one, (shuffle, (inverse, (entry, (block, (first, (later, (second, end))))))))))))))))) any =
        record {
          product_512_2 = only p1;
          product_3_3 = only p2;
          product_2_516 = only p3;
          product_512_512 = only p4;
          product_0_7 = only p5;
          unpacked = bytes;
          packed_back = back;
          packed_1_2 = two;
          no_bytes = nothing;
          one_byte = any;
          shuffle = shuffle;
          shuffle_inverse = inverse;
          first_entry = only entry;
          block = search-found _ _ _ block;
          one_move = search-found _ _ _ block ∙ sym (search-found _ _ _ later);
          not_first = only first;
        }
