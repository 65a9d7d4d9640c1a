-- Lists that are written from the front on.
use Rattle.std.proofs.Common.{◌≡◌, ◌∙◌, ℕ, ◌+◌, ◌≤◌, List, ◌++◌, length, take, drop, append_assoc, length-append, arith}
use lib.ListN.{length-take, length-drop}
use lib.Seq.{take_at, length-take-le, get_or-take, get_or-drop}
use Rattle.lists.specs.Loops.{tab}
use Rattle.lists.proofs.Tables.{length-tab, get_or-tab, tab_of}

-- what stands up to the end of a part that is put behind the first a elements
pub take_put : (a k n : ℕ) (p l rest : List ℕ) → a ≤ length l → length p ≡ k → n ≡ a + k → take n (take a l ++ (p ++ rest)) ≡ take a l ++ p
take_put a k n p l rest h e q =
    let long : length (take a l ++ p) ≡ n = simp length-append (omega (arith, length-take-le a l h)) in
    rw (← append_assoc) (take_at (take a l ++ p) rest n long)

-- a table is a table and a table
pub take-tab : (n k : ℕ) (f : ℕ → ℕ) → take n (tab (n + k) f) ≡ tab n f
take-tab n k f =
    tab_of n f (take n (tab (n + k) f)) (simp (length-take, length-tab) (omega arith))
    (λ i h. get_or-take n (tab (n + k) f) i 0 h ∙ get_or-tab (n + k) f i (omega arith))

pub drop-tab : (n k : ℕ) (f : ℕ → ℕ) → drop n (tab (n + k) f) ≡ tab k (λ i. f (n + i))
drop-tab n k f =
    tab_of k (λ i. f (n + i)) (drop n (tab (n + k) f)) (simp (length-drop, length-tab) (omega arith))
    (λ i h. get_or-drop n (tab (n + k) f) i 0 ∙ get_or-tab (n + k) f (n + i) (omega arith))
