-- From the code word c to the vector.
use Rattle.std.specs.Prelude.{List, ℕ, ◌-◌, get_or}
use Rattle.lists.specs.Loops.{pick}
use Rattle.gf.specs.Field.{◌⊕◌}
use Rattle.sets.specs.declared.Set.{Set}
use Rattle.scheme.specs.Keys.{Private}
use Rattle.scheme.specs.Opening.{redone, placed, unmixed, places_t}

-- what is read back at place i below k, and 0 where it is mixed
unfoldable pub known_of : Set → Private → List ℕ → ℕ → ℕ
known_of s κ c i = pick (unmixed s κ i) (redone s κ c (placed κ i)) 0

-- the right side of the system at the b-th place of T, where `tail` is the word of what is read back from place k on
unfoldable pub side_of : Set → Private → List ℕ → List ℕ → ℕ → ℕ
side_of s κ c tail b =
    let T = get_or (places_t s κ) b 0 in
    get_or tail (T - s.k) 0 ⊕ redone s κ c (placed κ T)
