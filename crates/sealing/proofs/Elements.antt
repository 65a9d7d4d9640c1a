-- What a random block gives: its places, and the elements of message, pad seed and places.
use mathlib.Core.Path.{◌≡◌, sym, ap, ap₂, ◌∙◌}
use mathlib.Core.Bool.{Bool, not}
use mathlib.Core.List.{List}
use Prim.Native.Nat.{ℕ, ◌+◌, ◌/◌, ◌≤◌}
use native.Mathlib.Omega.{arith}
use lib.ListN.{length, take, drop, length-drop}
use lib.Seq.{drop-drop, take-add, drop_at, take-take, length-take-le}
use Rattle.lists.specs.Parts.{part}
use Rattle.sets.specs.declared.Set.{Set}
use Rattle.sets.specs.Valid.{Valid}
use Rattle.perm.specs.Shuffle.{shuffled}
use Rattle.bits.specs.Numbers.{bytes16}
use Rattle.bits.specs.Bits.{elements}
use Rattle.scheme.specs.Lists.{has, passing}
use Rattle.scheme.specs.Padding.{padded}
use Rattle.scheme.specs.Sealing.{triple_elements, error_values, block_places, fits}
use Rattle.sealing.specs.Steps.{Drawn}

-- a part is a head and a tail
pub part-tail : (a k t : ℕ) (l : List ℕ) → a + k ≤ length l → part (a + k) t l ≡ drop k (part a (k + t) l)
part-tail a k t l h =
    let g : k ≤ length (drop a l) = rw length-drop (omega arith) in
    sym (ap (drop k) (take-add k t (drop a l)) ∙ drop_at (take k (drop a l)) (take t (drop k (drop a l))) k (length-take-le k (drop a l) g) ∙ ap (take t) (drop-drop k a l))

pub part-head : (a k t : ℕ) (l : List ℕ) → part a k l ≡ take k (part a (k + t) l)
part-head a k t l = sym (take-take k (k + t) (drop a l) (omega arith))

pub places_of : (s : Set) → Valid s → (block : List ℕ) → length block ≡ s.block → length (drop s.k3 block) / 2 ≡ s.t
places_of s v block long = omega (arith, length-drop s.k3 block, v.block_is)

pub drawn_block : (s : Set) → Valid s → (msg block : List ℕ) {seed numbers places els : List ℕ} {size : ℕ} → length block ≡ s.block
    → seed ≡ take s.k3 block → numbers ≡ drop s.k3 block → size ≡ s.n + s.w
    → take (length numbers / 2) places ≡ passing (has (take (length numbers / 2) (shuffled numbers size (length numbers / 2)))) 0 size
    → els ≡ triple_elements s msg seed (take s.t places) → Drawn s msg block places els
unfolding block_places
drawn_block s v msg block {seed} {numbers} {places} {els} {size} long seeds rest sizes chosen draws =
    let t : length numbers / 2 ≡ s.t = ap (λ (l : List ℕ). length l / 2) rest ∙ places_of s v block long in
    let p : take s.t places ≡ passing (has (take s.t (shuffled (drop s.k3 block) (s.n + s.w) s.t))) 0 (s.n + s.w) =
    rw (t, rest, sizes) at chosen in
    record { places_are = p; elements_are = draws ∙ ap₂ (triple_elements s msg) seeds p }

pub fits_is : (s : Set) (msg block places els : List ℕ) {r : Bool} → Drawn s msg block places els → r ≡ not (has (drop s.k els) 0)
    → r ≡ fits s msg block
unfolding fits error_values
fits_is s msg block places els d q = q ∙ ap (λ (l : List ℕ). not (has (drop s.k l) 0)) d.elements_are

-- the padded string gives the elements
pub drawn_elements : (s : Set) (msg seed places : List ℕ) {string els : List ℕ} → string ≡ padded s msg seed (bytes16 places) → els ≡ elements s.m string
    → els ≡ triple_elements s msg seed places
unfolding triple_elements
drawn_elements s msg seed places pads unpacks = unpacks ∙ ap (elements s.m) pads
