-- RLCE-KEM specification of September 14, 2017, section 7.13, in place: a string of k1 message bytes, k2 check bytes and the pad seed. Each step lays a mask over one of its
-- parts and leaves the rest, so that the same step again takes the mask off.
use Rattle.std.specs.Prelude.{List, ◌++◌, ℕ, ◌+◌, ◌-◌, length, take, drop}
use Rattle.lists.specs.Parts.{part, put}
use Rattle.hash.specs.Mask.{mgf, xored}
use Rattle.scheme.specs.Padding.{cleared}

-- step 6, decoding step 13: the mask of message, pad seed and e0 over the check bytes
unfoldable pub check_masked : ℕ → ℕ → List ℕ → List ℕ → List ℕ
check_masked k1 k2 e0 p =
    put k1 k2 (xored (part k1 k2 p) (mgf (take k1 p ++ (drop (k1 + k2) p ++ e0)) k2)) p

-- steps 7 and 8, decoding steps 9 and 10: the mask of pad seed and e0 over message and check bytes
unfoldable pub front_masked : ℕ → List ℕ → List ℕ → List ℕ
front_masked front e0 p = xored (take front p) (mgf (drop front p ++ e0) front) ++ drop front p

-- steps 9 and 10, decoding steps 4 to 6: the mask of message and check bytes over the pad seed
unfoldable pub seed_masked : ℕ → List ℕ → List ℕ
seed_masked front p = take front p ++ xored (drop front p) (mgf (take front p) (length p - front))

-- decoding: the steps back, which leave the message, the differences of the check bytes from what they should be, and the pad seed
unfoldable pub stripped : ℕ → ℕ → ℕ → List ℕ → List ℕ → List ℕ
stripped k1 k2 ν e0 p = check_masked k1 k2 e0 (front_masked (k1 + k2) e0 (cleared ν (seed_masked (k1 + k2) p)))
