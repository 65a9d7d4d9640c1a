-- What is read from the bytes of a key is what it holds.
use mathlib.Core.Path.{◌≡◌, refl, sym, ap₂, ◌∙◌}
use mathlib.Core.List.{List}
use Prim.Native.Nat.{ℕ, ◌+◌, ◌-◌, ◌*◌, ◌/◌, ◌≤◌, ◌<◌}
use native.Mathlib.Omega.{arith}
use lib.ListN.{length, get_or, take, drop, length-drop}
use lib.Seq.{get_or-take, length-take-le, ext_get_or}
use Rattle.bits.specs.Bits.{bits_at, elements_at}
use Rattle.bits.specs.Numbers.{number16, numbers16}
use Rattle.bits.proofs.Sixteen.{length-numbers16, numbers16-at}
use Rattle.bits.proofs.Packing.{elements_at-at}
use Rattle.sets.specs.declared.Set.{Set}
use Rattle.sets.specs.Valid.{Valid, key_elements}
use Rattle.scheme.specs.Keys.{read, lists_end}

list-at : (start n : ℕ) (key : List ℕ) → start + 2 * n ≤ length key → (i : ℕ) → i < n → get_or (take n (numbers16 (drop start key))) i 0 ≡ number16 (drop start key) i
list-at start n key fits i h = get_or-take n (numbers16 (drop start key)) i 0 h ∙ numbers16-at (drop start key) i (rw length-drop (omega arith))

length-list : (start n : ℕ) (key : List ℕ) → start + 2 * n ≤ length key → length (take n (numbers16 (drop start key))) ≡ n
length-list start n key fits = length-take-le n (numbers16 (drop start key)) (rw (length-numbers16, length-drop) (omega arith))

-- the numbers in the bytes of the list alone
pub list-numbers : (start n k : ℕ) (key : List ℕ) → start + 2 * n ≤ length key → k ≡ start + 2 * n → numbers16 (take (k - start) (drop start key)) ≡ take n (numbers16 (drop start key))
list-numbers start n k key fits e =
    let two : k - start ≡ 2 * n = omega arith in
    let part : List ℕ = take (2 * n) (drop start key) in
    let long : length (take (2 * n) (drop start key)) ≡ 2 * n = length-take-le (2 * n) (drop start key) (rw length-drop (omega arith)) in
    let few : length (numbers16 (take (2 * n) (drop start key))) ≡ n = rw (length-numbers16, long) (div_two n) in
    rw two
    (ext_get_or 0 (numbers16 (take (2 * n) (drop start key))) (take n (numbers16 (drop start key))) (few ∙ sym (length-list start n key fits))
    (λ i g. let h : i < n = omega arith in
    numbers16-at (take (2 * n) (drop start key)) i (omega arith)
    ∙ ap₂ (λ (a b : ℕ). a * 256 + b) (get_or-take (2 * n) (drop start key) (2 * i) 0 (omega arith)) (get_or-take (2 * n) (drop start key) (2 * i + 1) 0 (omega arith))
    ∙ sym (list-at start n key fits i h)))
  where
    div_two : (n : ℕ) → 2 * n / 2 ≡ n
    div_two n = omega arith

module _ (s : Set) (key : List ℕ) (ok : Valid s) (long : length key ≡ s.private) where
  lists-fit : lists_end s ≤ length key
  lists-fit = omega (arith, long, ok.private_is)

  pub first_at : (j : ℕ) → j < s.n → get_or (read s key).q1 j 0 ≡ number16 (drop 1 key) j
  unfolding read
  first_at j h = list-at 1 s.n key (omega (arith, lists-fit)) j h

  pub second_at : (j : ℕ) → j < s.n + s.w → get_or (read s key).q2 j 0 ≡ number16 (drop (1 + 2 * s.n) key) j
  unfolding read
  second_at j h = list-at (1 + 2 * s.n) (s.n + s.w) key (omega (arith, lists-fit)) j h

  pub first_numbers : (k : ℕ) → k ≡ 1 + 2 * s.n → numbers16 (take (k - 1) (drop 1 key)) ≡ (read s key).q1
  unfolding read
  first_numbers k e = list-numbers 1 s.n k key (omega (arith, lists-fit)) e

  pub second_numbers : (k : ℕ) → k ≡ 1 + 2 * s.n + 2 * (s.n + s.w) → numbers16 (take (k - (1 + 2 * s.n)) (drop (1 + 2 * s.n) key)) ≡ (read s key).q2
  unfolding read
  second_numbers k e = list-numbers (1 + 2 * s.n) (s.n + s.w) k key (omega (arith, lists-fit)) e

  pub length_first : length (read s key).q1 ≡ s.n
  unfolding read
  length_first = length-list 1 s.n key (omega (arith, lists-fit))

  pub length_second : length (read s key).q2 ≡ s.n + s.w
  unfolding read
  length_second = length-list (1 + 2 * s.n) (s.n + s.w) key (omega (arith, lists-fit))

pub column_at : (s : Set) (key : List ℕ) (i : ℕ) → i < 2 * s.w → get_or (read s key).columns i 0 ≡ bits_at s.m key (8 * lists_end s + s.m * i)
unfolding read
column_at s key i h = elements_at-at (2 * s.w) s.m key (8 * lists_end s) i h

pub inverse_at : (s : Set) (key : List ℕ) (i : ℕ) → i < s.n → get_or (read s key).inverses i 0 ≡ bits_at s.m key (8 * lists_end s + s.m * (2 * s.w) + s.m * i)
unfolding read
inverse_at s key i h = elements_at-at s.n s.m key (8 * lists_end s + s.m * (2 * s.w)) i h

pub ge_is : (s : Set) (key : List ℕ) (n x : ℕ) → n ≡ key_elements s → x ≡ lists_end s → elements_at n s.m key (8 * x + s.m * (2 * s.w + s.n)) ≡ (read s key).ge
unfolding read
ge_is s key n x e f = rw (e, f) refl
