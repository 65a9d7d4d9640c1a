-- Laws of row_plus and row_times: their length and each element; and what a loop that has done each element has made.
use mathlib.Core.Path.{◌≡◌, sym, ◌∙◌}
use mathlib.Core.List.{List}
use Prim.Native.Nat.{ℕ, ◌<◌}
use lib.ListN.{length, get_or}
use lib.Seq.{ext_get_or}
use Rattle.lists.specs.Loops.{tab}
use Rattle.lists.proofs.Tables.{length-tab, get_or-tab}
use Rattle.gf.specs.Field.{Modulus, ◌⊕◌, mul}
use Rattle.gf.specs.Runs.{row_plus, row_times}

-- a list is the table of f where its elements are f's
tabled : (n : ℕ) (f : ℕ → ℕ) (l : List ℕ) → length l ≡ n → ((i : ℕ) → i < n → get_or l i 0 ≡ f i) → l ≡ tab n f
tabled n f l e h =
    ext_get_or 0 l (tab n f) (e ∙ sym (length-tab n f)) (λ i k. let lt : i < n = rw e at k in h i lt ∙ sym (get_or-tab n f i lt))

module _ (F : Modulus) (f : ℕ) (by row : List ℕ) where
  pub length-row_plus : length (row_plus F f by row) ≡ length row
  unfolding row_plus
  length-row_plus = length-tab (length row) (λ i. get_or row i 0 ⊕ mul F f (get_or by i 0))

  pub row_plus-at : (i : ℕ) → i < length row → get_or (row_plus F f by row) i 0 ≡ get_or row i 0 ⊕ mul F f (get_or by i 0)
  unfolding row_plus
  row_plus-at i h = get_or-tab (length row) (λ i. get_or row i 0 ⊕ mul F f (get_or by i 0)) i h

  pub row_plus-is : (l : List ℕ) → length l ≡ length row → ((i : ℕ) → i < length row → get_or l i 0 ≡ get_or row i 0 ⊕ mul F f (get_or by i 0)) → l ≡ row_plus F f by row
  unfolding row_plus
  row_plus-is l e h = tabled (length row) (λ i. get_or row i 0 ⊕ mul F f (get_or by i 0)) l e h

module _ (F : Modulus) (by row : List ℕ) where
  pub length-row_times : length (row_times F by row) ≡ length row
  unfolding row_times
  length-row_times = length-tab (length row) (λ i. mul F (get_or row i 0) (get_or by i 0))

  pub row_times-at : (i : ℕ) → i < length row → get_or (row_times F by row) i 0 ≡ mul F (get_or row i 0) (get_or by i 0)
  unfolding row_times
  row_times-at i h = get_or-tab (length row) (λ i. mul F (get_or row i 0) (get_or by i 0)) i h

  pub row_times-is : (l : List ℕ) → length l ≡ length row → ((i : ℕ) → i < length row → get_or l i 0 ≡ mul F (get_or row i 0) (get_or by i 0)) → l ≡ row_times F by row
  unfolding row_times
  row_times-is l e h = tabled (length row) (λ i. mul F (get_or row i 0) (get_or by i 0)) l e h
