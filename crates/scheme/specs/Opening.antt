-- What opening a ciphertext means (RLCE-KEM specification of September 14, 2017, section 6.3). It rests on the code word within t places, so it is a relation;
-- that it gives at most one message is a theorem.
use Rattle.std.specs.Prelude.{◌≡◌, ◌≢◌, Bool, true, not, List, ◌++◌, ℕ, ◌+◌, ◌-◌, ◌*◌, ◌≤◌, ◌<◌, eqb, ltb, length, get_or, take}
use Rattle.lists.specs.Loops.{pick, tab}
use Rattle.gf.specs.Field.{◌⊕◌, mul, inverse, size}
use Rattle.bits.specs.Bits.{elements, packed, tail_zero}
use Rattle.bits.specs.Numbers.{bytes16}
use Rattle.code.specs.Words.{CodeWord, apart}
use Rattle.sets.specs.declared.Set.{Set}
use Rattle.scheme.specs.Lists.{passing, inverse_of}
use Rattle.scheme.specs.Field.{field_of}
use Rattle.scheme.specs.Padding.{Checks, message_of}
use Rattle.scheme.specs.Keys.{Private, read}
use Rattle.scheme.specs.Sealing.{combined, encoded}

-- ---- from the received word to the word that is decoded

-- section 6.3, steps 6 to 8: undo P2, multiply pairs by the stored column and keep one element of each
unfoldable pub kept : Set → Private → List ℕ → ℕ → ℕ
kept s κ y j =
    let F = field_of s in
    let d = s.n - s.w in
    let at : ℕ → ℕ = λ i. get_or y (get_or κ.q2 i 0) 0 in
    pick (ltb j d) (at j) (mul F (at (d + 2 * (j - d))) (get_or κ.columns (2 * (j - d)) 0) ⊕ mul F (at (d + 2 * (j - d) + 1)) (get_or κ.columns (2 * (j - d) + 1) 0))

-- section 6.3, steps 9 and 10: undo P1, multiply by the stored inverses
unfoldable pub undone : Set → Private → List ℕ → List ℕ
undone s κ y = tab s.n (λ j. mul (field_of s) (get_or κ.inverses j 0) (kept s κ y (get_or κ.q1 j 0)))

-- ---- from the code word to the vector

-- section 6.3, steps 14 and 15: the code word times the multipliers, in the order that P1 made: cB4A
unfoldable pub redone : Set → Private → List ℕ → ℕ → ℕ
redone s κ c j =
    let F = field_of s in
    let i = get_or (inverse_of κ.q1) j 0 in
    mul F (get_or c i 0) (inverse F (get_or κ.inverses i 0))

-- P2 at a place, and whether that place is unmixed
unfoldable pub placed : Private → ℕ → ℕ
placed κ j = get_or (inverse_of κ.q2) j 0

unfoldable pub unmixed : Set → Private → ℕ → Bool
unmixed s κ j = ltb (placed κ j) (s.n - s.w)

-- I: the places below k with P2 value at least n-w; u of them
unfoldable pub places_i : Set → Private → List ℕ
places_i s κ = passing (λ j. not (unmixed s κ j)) 0 s.k

-- T: the first u places from k up with P2 value below n-w
unfoldable pub places_t : Set → Private → List ℕ
places_t s κ = take (length (places_i s κ)) (passing (unmixed s κ) s.k (s.n + s.w - s.k))

-- W = GE's rows I at columns T - k
unfoldable pub W : Set → Private → ℕ → ℕ → ℕ
W s κ a b =
    get_or κ.ge (get_or (places_i s κ) a 0 * (s.n + s.w - s.k) + (get_or (places_t s κ) b 0 - s.k)) 0

-- W is singular (8): there is a vector y, not zero, with y·W = 0
pub record Singular (s : Set) (κ : Private) : Type 0 where
  pub y : List ℕ
  pub long : length y ≡ length (places_i s κ)
  pub small : (i : ℕ) → get_or y i 0 < size (field_of s)
  pub place : ℕ
  pub nonzero : get_or y place 0 ≢ 0
  pub zero : (b : ℕ) → b < length (places_i s κ) → combined (field_of s) y (length (places_i s κ)) (λ a. W s κ a b) ≡ 0

-- the vector x goes with the code word c: read back at the unmixed places below k, and solved for the others by the places T
pub record Vector (s : Set) (κ : Private) (c x : List ℕ) : Type 0 where
  pub long : length x ≡ s.k
  pub small : (i : ℕ) → get_or x i 0 < size (field_of s)
  pub reads : (i : ℕ) → i < s.k → unmixed s κ i ≡ true → get_or x i 0 ≡ redone s κ c (placed κ i)
  pub solves : (b : ℕ) → b < length (places_t s κ) → encoded s κ.ge x (get_or (places_t s κ) b 0) ≡ redone s κ c (placed κ (get_or (places_t s κ) b 0))

-- ---- from the vector to the message

-- the places where the word of x differs from the received one, and the differences
unfoldable pub error_places : Set → Private → List ℕ → List ℕ → List ℕ
error_places s κ x y = passing (λ j. not (eqb (encoded s κ.ge x j) (get_or y j 0))) 0 (s.n + s.w)

unfoldable pub differences : Set → Private → List ℕ → List ℕ → List ℕ → List ℕ
differences s κ x y places =
    tab (length places) (λ i. encoded s κ.ge x (get_or places i 0) ⊕ get_or y (get_or places i 0) 0)

-- the padded string; its lost bits read as 0
unfoldable pub repadded : Set → Private → List ℕ → List ℕ → List ℕ
repadded s κ x y = packed s.m (x ++ differences s κ x y (error_places s κ x y))

-- ---- opening

-- the ciphertext opens to the message under the well-formed key
pub record Opens (s : Set) (key cipher msg : List ℕ) : Type 0 where
  -- Ciphertext spare bits must be zero
  pub spare : tail_zero s.m cipher ≡ true
  -- find the code word within t places
  pub code : List ℕ
  pub word : CodeWord (field_of s) s.n (s.n - s.k) code
  pub near : apart s.n (undone s (read s key) (elements s.m cipher)) code ≤ s.t
  -- read back, Solve for the I part
  pub x : List ℕ
  pub vector : Vector s (read s key) code x
  -- Then recompute the word: it must differ from the ciphertext in exactly t places
  pub exactly : length (error_places s (read s key) x (elements s.m cipher)) ≡ s.t
  -- Unpad, compare the k2 check bytes
  pub checks : Checks s (repadded s (read s key) x (elements s.m cipher)) (bytes16 (error_places s (read s key) x (elements s.m cipher)))
  pub message : msg ≡ message_of s (repadded s (read s key) x (elements s.m cipher)) (bytes16 (error_places s (read s key) x (elements s.m cipher)))
