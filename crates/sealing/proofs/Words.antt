-- The word that is sent: row after row of GE times its element of the vector, and then the error values, each at its place.
use mathlib.Core.Path.{◌≡◌, refl, sym, ap, ap₂, ◌∙◌}
use mathlib.Core.Logic.{◌≢◌}
use mathlib.Core.List.{List, [], ◌∷◌, ◌++◌}
use Prim.Native.Nat.{ℕ, suc, ◌+◌, ◌-◌, ◌*◌, ◌^◌, ◌≤◌, ◌<◌}
use native.Mathlib.Nat.{mul-add, add-mul, zero-mul, mul-zero, mul-le-mul, mul-le-mul_left, mul-le-mul_right}
use native.Mathlib.Numerals.{add-one}
use native.Mathlib.Omega.{arith}
use borrow.Author.Tests.{eq-eqb, ne_eqb}
use lib.ListN.{length, get_or, set, drop, replicate, length-set, length-drop, get_or-replicate, get_or-append, drop_of_length-le}
use lib.Seq.{get_or-set_same, get_or-set_other, get_or-drop, drop-cons}
use Rattle.gf.specs.Field.{Modulus, ◌⊕◌, mul, size}
use Rattle.gf.specs.Ten.{ten}
use Rattle.gf.proofs.Xor.{zero_right}
use Rattle.bits.specs.Bits.{elements_at, bits_at}
use Rattle.bits.proofs.Packing.{elements_at-at}
use Rattle.scheme.specs.Sealing.{combined, error_at}
use Rattle.sealing.proofs.Selections.{at-or}
use Rattle.gf.specs.Runs.{row_plus}
use Rattle.gf.proofs.Rows.{row_plus-at}
use Rattle.std.proofs.lemmas.List.{get_or-append-add}
use Rattle.sealing.specs.Steps.{Rising, Summed, Encoded, Added}

pub combined-nil : (F : Modulus) (x : List ℕ) (M : ℕ → ℕ) → combined F x 0 M ≡ 0
unfolding combined
combined-nil F x M = refl

pub combined-suc : (F : Modulus) (x : List ℕ) (k : ℕ) (M : ℕ → ℕ) → combined F x (suc k) M ≡ combined F x k M ⊕ mul F (get_or x k 0) (M k)
unfolding combined
combined-suc F x k M = refl

-- ---- where row i stands: it is within the elements of GE, and its bits are within the key
row_ends : (i k cols : ℕ) → i < k → i * cols + cols ≤ k * cols
row_ends i k cols h =
    let e : (i + 1) * cols ≡ i * cols + cols = rw add-mul (omega arith) in
    let f : (i + 1) * cols ≤ k * cols = mul-le-mul_right cols (omega arith) in
    omega arith

pub row_within : (m i k cols bits place : ℕ) → i < k → 8 + m * (k * cols) ≤ bits → place ≡ 8 + m * (i * cols) → place + m * cols ≤ bits
row_within m i k cols bits place h room at =
    let f : m * (i * cols + cols) ≡ m * (i * cols) + m * cols = mul-add m (i * cols) cols in
    omega (arith, mul-le-mul_left m (row_ends i k cols h))

pub row_small : (m i k cols place : ℕ) → i < k → m ≤ 16 → k ≤ 65536 → cols ≤ 65536 → place ≡ 8 + m * (i * cols) → place + m * cols ≤ 68719476744
row_small m i k cols place h wide few₁ few₂ at =
    row_within m i k cols 68719476744 place h (omega (arith, mul-le-mul wide (mul-le-mul few₁ few₂))) at

pub row_fits : (m i k size place : ℕ) → i < k → m ≤ 16 → k ≤ size → size ≤ 65536 → place ≡ 8 + m * (i * (size - k)) → place + m * (size - k) < 2 ^ 64
row_fits m i k size place h wide few₁ few₂ at = omega (arith, row_small m i k (size - k) place h wide (omega arith) (omega arith) at)

pub row_first : (m cols : ℕ) → 8 ≡ 8 + m * (0 * cols)
row_first m cols = rw (zero-mul, mul-zero)

-- the bits of a row are few
pub step_small : (m size k : ℕ) → m ≤ 16 → size ≤ 65536 → m * (size - k) ≤ 1048576
step_small m size k wide few = let h : size - k ≤ 65536 = omega arith in mul-le-mul wide h

pub row_next : (m i cols place : ℕ) → place ≡ 8 + m * (i * cols) → place + m * cols ≡ 8 + m * ((i + 1) * cols)
row_next m i cols place at =
    let e : (i + 1) * cols ≡ i * cols + cols = rw add-mul (omega arith) in
    rw (e, mul-add) (omega arith)

-- element c of row i of GE, where it stands in the key
ge-at : (m i k cols c : ℕ) (key : List ℕ) → i < k → c < cols → get_or (elements_at (k * cols) m key 8) (i * cols + c) 0 ≡ bits_at m key (8 + m * (i * cols) + m * c)
ge-at m i k cols c key h g =
    elements_at-at (k * cols) m key 8 (i * cols + c) (omega (arith, row_ends i k cols h))
    ∙ ap (bits_at m key) (ap (λ (x : ℕ). 8 + x) (mul-add m (i * cols) c) ∙ omega arith)

-- ---- error values at their places, from the last to the first
pub error_at-none : (places values : List ℕ) (j : ℕ) → ((a : ℕ) → a < length places → get_or places a 0 ≢ j) → error_at places values j ≡ 0
unfolding error_at
error_at-none [] values j d = refl
error_at-none (p ∷ places) [] j d = refl
error_at-none (p ∷ places) (v ∷ values) j d = rw (ne_eqb p j (d 0 (omega arith))) (error_at-none places values j (λ a h. d (suc a) (omega arith)))

module _ (places values : List ℕ) (i : ℕ) (h : i < length places) (g : i < length values) where
  pub error_at-here : error_at (drop i places) (drop i values) (get_or places i 0) ≡ get_or values i 0
  unfolding error_at
  error_at-here = rw (drop-cons places i 0 h, drop-cons values i 0 g, eq-eqb (get_or places i 0) (get_or places i 0) refl)

  pub error_at-there : (j : ℕ) → j ≢ get_or places i 0 → error_at (drop i places) (drop i values) j ≡ error_at (drop (suc i) places) (drop (suc i) values) j
  unfolding error_at
  error_at-there j d = rw (drop-cons places i 0 h, drop-cons values i 0 g, ne_eqb (get_or places i 0) j (λ e. d (sym e)))

  pub error_at-past : Rising places → error_at (drop (suc i) places) (drop (suc i) values) (get_or places i 0) ≡ 0
  error_at-past r =
      error_at-none (drop (suc i) places) (drop (suc i) values) (get_or places i 0)
      (λ a k. rw get_or-drop (omega (arith, r i (suc i + a) (omega arith) (omega (arith, length-drop (suc i) places)))))

pub added_none : (places values w : List ℕ) → Added places values (length places) w w
unfolding error_at
added_none places values w =
    let none : drop (length places) places ≡ [] = drop_of_length-le places {i = length places} (omega arith) in
    record { long = refl; word = λ j h. rw none (sym (zero_right (get_or w j 0))) }

add-one-value : (i : ℕ) (places values w₀ w : List ℕ) → i < length places → i < length values → Rising places → get_or places i 0 < length w₀
    → Added places values (suc i) w₀ w → Added places values i w₀ (set w (get_or places i 0) (get_or w (get_or places i 0) 0 ⊕ get_or values i 0))
add-one-value i places values w₀ w h g r low c =
    let x = get_or places i 0 in
    let fits : get_or places i 0 < length w = omega (arith, c.long) in
    record {
      long = length-set w x (get_or w x 0 ⊕ get_or values i 0) ∙ c.long;
      word = λ j lt. at-or j x
          (λ q. rw q (get_or-set_same w x (get_or w x 0 ⊕ get_or values i 0) 0 fits
          ∙ ap (λ (y : ℕ). y ⊕ get_or values i 0) (c.word x low ∙ ap (λ (y : ℕ). get_or w₀ x 0 ⊕ y) (error_at-past places values i h g r) ∙ zero_right (get_or w₀ x 0))
          ∙ ap (λ (y : ℕ). get_or w₀ x 0 ⊕ y) (sym (error_at-here places values i h g))))
          (λ d. get_or-set_other w x j (get_or w x 0 ⊕ get_or values i 0) 0 d ∙ c.word j lt ∙ ap (λ (y : ℕ). get_or w₀ j 0 ⊕ y) (sym (error_at-there places values i h g j d)));
    }

pub added_more : (i x : ℕ) (places values w₀ w : List ℕ) → 0 < i → i ≤ length places → length values ≡ length places → Rising places
    → get_or places (i - 1) 0 < length w₀ → x ≡ get_or places (i - 1) 0
    → Added places values i w₀ w → Added places values (i - 1) w₀ (set w x (get_or w x 0 ⊕ get_or values (i - 1) 0))
added_more i x places values w₀ w some few same r low e c =
    let z : suc (i - 1) ≡ i = omega arith in
    rw e (add-one-value (i - 1) places values w₀ w (omega arith) (omega (arith, same)) r low (rw z c))

-- ---- the sums, row after row
pub summed_none : (ge x : List ℕ) (cols n : ℕ) → cols ≤ n → Summed ge x cols 0 (replicate n 0)
summed_none ge x cols n few c h = get_or-replicate n c 0 0 (omega arith) ∙ sym (combined-nil ten x (λ r. get_or ge (r * cols + c) 0))

pub summed_more : (m k cols place i f : ℕ) (key x row sums : List ℕ) {sums' : List ℕ} → i < k → place ≡ 8 + m * (i * cols)
    → row ≡ elements_at cols m key place → f ≡ get_or x i 0 → length sums ≡ cols → sums' ≡ row_plus ten f row sums
    → Summed (elements_at (k * cols) m key 8) x cols i sums → Summed (elements_at (k * cols) m key 8) x cols (i + 1) sums'
summed_more m k cols place i f key x row sums {sums'} h at rowp fp long e S c g =
    let ge = elements_at (k * cols) m key 8 in
    let entry : get_or row c 0 ≡ get_or ge (i * cols + c) 0 =
    ap (λ (l : List ℕ). get_or l c 0) rowp ∙ elements_at-at cols m key place c g ∙ ap (λ (p : ℕ). bits_at m key (p + m * c)) at
    ∙ sym (ge-at m i k cols c key h g) in
    ap (λ (l : List ℕ). get_or l c 0) e ∙ row_plus-at ten f row sums c (omega (arith, long))
    ∙ ap₂ ◌⊕◌ (S c g) (ap₂ (mul ten) fp entry)
    ∙ sym (combined-suc ten x i (λ r. get_or ge (r * cols + c) 0))
    ∙ ap (λ (n : ℕ). combined ten x n (λ r. get_or ge (r * cols + c) 0)) (sym (add-one i))

pub encoded_parts : (ge x sums : List ℕ) (cols i : ℕ) {front : List ℕ} → i ≡ length x → front ≡ x → Summed ge x cols i sums → Encoded ge x cols (front ++ sums)
encoded_parts ge x sums cols i {front} all e S =
    record {
      vector = λ j h. ap (λ (l : List ℕ). get_or (l ++ sums) j 0) e ∙ get_or-append x sums 0 j h;
      sums = λ c h. ap (λ (l : List ℕ). get_or (l ++ sums) (length x + c) 0) e ∙ get_or-append-add x sums c 0 ∙ rw all at (S c h);
    }
