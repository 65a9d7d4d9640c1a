-- A run whose first elements change nothing may begin after them.
use mathlib.Core.Path.{◌≡◌, refl, sym, ap, ◌∙◌}
use mathlib.Core.List.{List}
use Prim.Native.Nat.{ℕ, zero, suc, ◌+◌, ◌-◌, ◌<◌, ◌≤◌}
use native.Mathlib.Nat.{add-suc, add-zero, add_assoc}
use native.Mathlib.Omega.{arith}
use lib.ListN.{get_or, set}
use lib.Seq.{set-get_or}
use Rattle.lists.specs.Loops.{turns}
use Rattle.gf.specs.Field.{Modulus, ◌⊕◌, mul}
use Rattle.gf.specs.Runs.{add_at, add_run, scale_at, scale_run}
use Rattle.gf.proofs.Xor.{zero_right}
use Rattle.gf.proofs.Ring.{mul-zero-right}

module _ {A : Type 0} where
  -- a turns, then n more
  turns-split : (step : ℕ → A → A) (a n : ℕ) (x : A) → turns step (a + n) x ≡ turns (λ k. step (a + k)) n (turns step a x)
  unfolding turns
  turns-split step a zero x = rw add-zero
  turns-split step a (suc n) x = rw (add-suc, turns-split step a n x)

  turns_same : (f g : ℕ → A → A) (n : ℕ) (x : A) → ((k : ℕ) (y : A) → f k y ≡ g k y) → turns f n x ≡ turns g n x
  unfolding turns
  turns_same f g zero x e = refl
  turns_same f g (suc n) x e = rw (turns_same f g n x e, e n (turns g n x))

  turns-idle : (step : ℕ → A → A) (n : ℕ) (x : A) → ((k : ℕ) → k < n → step k x ≡ x) → turns step n x ≡ x
  unfolding turns
  turns-idle step zero x e = refl
  turns-idle step (suc n) x e = rw (turns-idle step n x (λ k h. e k (omega arith))) (e n (omega arith))

  -- the first c turns change nothing
  turns-from : (step late : ℕ → A → A) (c m : ℕ) (x : A) → c ≤ m → ((k : ℕ) → k < c → step k x ≡ x) → ((k : ℕ) (y : A) → late k y ≡ step (c + k) y) → turns late (m - c) x ≡ turns step m x
  turns-from step late c m x h idle same =
      let n : c + (m - c) ≡ m = omega arith in
      turns_same late (λ k. step (c + k)) (m - c) x same ∙ ap (turns (λ k. step (c + k)) (m - c)) (sym (turns-idle step c x idle)) ∙ sym (turns-split step c (m - c) x) ∙ ap (λ (k : ℕ). turns step k x) n

module _ (F : Modulus) (c m f : ℕ) (l : List ℕ) (h : c ≤ m) where
  -- zeros stay zeros
  pub scale-from : (at : ℕ) → ((j : ℕ) → j < c → get_or l (at + j) 0 ≡ 0) → scale_run F (at + c) (m - c) f l ≡ scale_run F at m f l
  unfolding scale_run
  scale-from at z =
      turns-from (scale_at F at f) (scale_at F (at + c) f) c m l h
      (λ j k. ap (set l (at + j)) (ap (mul F f) (z j k) ∙ mul-zero-right F f ∙ sym (z j k)) ∙ set-get_or l (at + j) 0)
      (λ k y. rw add_assoc)

  -- f times zero, added, changes nothing
  pub add-from : (dst src : ℕ) → ((j : ℕ) → j < c → get_or l (src + j) 0 ≡ 0) → add_run F (dst + c) (src + c) (m - c) f l ≡ add_run F dst src m f l
  unfolding add_run
  add-from dst src z =
      turns-from (add_at F dst src f) (add_at F (dst + c) (src + c) f) c m l h
      (λ j k. ap (set l (dst + j)) (ap (λ (x : ℕ). get_or l (dst + j) 0 ⊕ mul F f x) (z j k) ∙ rw mul-zero-right (zero_right _)) ∙ set-get_or l (dst + j) 0)
      (λ k y. rw (add_assoc dst c k, add_assoc src c k))
