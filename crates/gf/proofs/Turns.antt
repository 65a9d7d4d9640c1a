-- Laws of the runs, for the loops that compute them: one more element, from what the loop's turn has stored.
use mathlib.Core.Path.{◌≡◌}
use mathlib.Core.List.{List}
use Prim.Native.Nat.{ℕ, ◌+◌}
use lib.ListN.{get_or, set}
use Rattle.lists.proofs.Loops.{turns-none, turns_more}
use Rattle.gf.specs.Field.{Modulus, ◌⊕◌, mul}
use Rattle.gf.specs.Runs.{add_at, add_run, scale_at, scale_run, mul_at, mul_run}
use Rattle.gf.proofs.Ring.{mul_comm}

module _ (F : Modulus) (dst src f : ℕ) (s₀ : List ℕ) where
  pub add_none : s₀ ≡ add_run F dst src 0 f s₀
  unfolding add_run
  add_none = turns-none (add_at F dst src f) s₀

  pub add-more : (i : ℕ) (s : List ℕ) (r : ℕ) → s ≡ add_run F dst src i f s₀ → r ≡ mul F f (get_or s (src + i) 0) → set s (dst + i) (get_or s (dst + i) 0 ⊕ r) ≡ add_run F dst src (i + 1) f s₀
  unfolding add_run
  add-more i s r e q = rw q (turns_more (add_at F dst src f) i s₀ s e)

module _ (F : Modulus) (at f : ℕ) (s₀ : List ℕ) where
  pub scale-none : s₀ ≡ scale_run F at 0 f s₀
  unfolding scale_run
  scale-none = turns-none (scale_at F at f) s₀

  pub scale-more : (i : ℕ) (s : List ℕ) (r : ℕ) → s ≡ scale_run F at i f s₀ → r ≡ mul F f (get_or s (at + i) 0) → set s (at + i) r ≡ scale_run F at (i + 1) f s₀
  unfolding scale_run
  scale-more i s r e q = rw q (turns_more (scale_at F at f) i s₀ s e)

module _ (F : Modulus) (dst src : ℕ) (s₀ : List ℕ) where
  pub mul-none : s₀ ≡ mul_run F dst src 0 s₀
  unfolding mul_run
  mul-none = turns-none (mul_at F dst src) s₀

  pub mul-more : (i : ℕ) (s : List ℕ) (r : ℕ) → s ≡ mul_run F dst src i s₀ → r ≡ mul F (get_or s (src + i) 0) (get_or s (dst + i) 0) → set s (dst + i) r ≡ mul_run F dst src (i + 1) s₀
  unfolding mul_run
  mul-more i s r e q = rw (q, mul_comm F (get_or s (src + i) 0) (get_or s (dst + i) 0)) (turns_more (mul_at F dst src) i s₀ s e)
