-- Sealing: where the search found a block, its word is sent; where it found none, nothing is.
use mathlib.Core.Path.{◌≡◌, ◌∙◌}
use mathlib.Core.List.{List}
use Prim.Native.Nat.{ℕ}
use Rattle.std.specs.Prelude.{Option, Some}
use Rattle.sets.specs.declared.Set.{Set}
use Rattle.sets.specs.Valid.{Valid}
use Rattle.scheme.specs.Sealing.{block_at, sealed_by}
use Rattle.sealing.specs.Seals.{Finds, Ready, Seals, sent_by}
use Rattle.sealing.proofs.Blocks.{drawn-ready, drawn-sent}

module _ (s : Set) (v : Valid s) (random msg places els : List ℕ) (b : ℕ) (r : Option ℕ) (e : r ≡ Some b) (f : Finds s random msg r places els) where
  found : Finds s random msg (Some b) places els
  found = rw e at f

  pub found-ready : Ready s places els
  found-ready = drawn-ready s v msg (block_at s random b) places els found.2

  pub found-sealed : (key cipher : List ℕ) → cipher ≡ sent_by s key places els → Seals s key random msg (Some b) cipher
  unfolding sealed_by
  found-sealed key cipher q = (found.0, found.1, q ∙ drawn-sent s v msg (block_at s random b) places els found.2 key)
