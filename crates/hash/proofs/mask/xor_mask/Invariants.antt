-- The bytes of the first n digests have their mask.
use Rattle.std.proofs.Common.{List, ℕ, ◌*◌, length, min}
use Rattle.hash.specs.Mask.{mgf}
use Rattle.hash.specs.Held.{Holds}
use Rattle.hash.proofs.Masks.{Over}
use Rattle.hash.proofs.mask.xor_mask.Given as goal

abbrev pub invariant-loop-n : goal.invariant-loop-n
invariant-loop-n l = (seed : List ℕ) → Holds l.h seed → Over l.fn.s (mgf seed (length l.fn.s)) (min (64 * l.n) (length l.fn.s)) l.s
