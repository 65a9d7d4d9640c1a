-- What the runs leave at each place, as users of the kernels need it: turn i stores at its own place, and no later turn stores there.
use mathlib.Core.Path.{◌≡◌, ap, ap₂, ◌∙◌}
use mathlib.Core.Logic.{◌⊎◌, inl, inr}
use mathlib.Core.List.{List}
use Prim.Native.Nat.{ℕ, ◌+◌, ◌≤◌, ◌<◌}
use native.Mathlib.Nat.{le_refl}
use native.Mathlib.Omega.{arith}
use lib.ListN.{length, get_or}
use Rattle.gf.specs.Field.{Modulus, width, size, ◌⊕◌, mul}
use Rattle.gf.specs.Runs.{add_run, scale_run, mul_run}
use Rattle.gf.proofs.Xor.{add-lt}
use Rattle.gf.proofs.Ring.{mul-lt}
use Rattle.gf.proofs.Stores.{Off, stores-length, stores-off, stores_at, stores-all}

-- no element of the source is overwritten before it is read: it starts at dst or later, or ends before dst
abbrev pub Clear : ℕ → ℕ → ℕ → Type 0
Clear dst src n = (dst ≤ src) ⊎ (src + n ≤ dst)

ahead : {dst src n i : ℕ} → Clear dst src n → i < n → Off dst i (src + i)
ahead {dst} {src} {n} {i} (inl h) g = inr (omega arith)
ahead {dst} {src} {n} {i} (inr h) g = inl (omega arith)

-- every element of l, and what is read past its end, is an element of the field
abbrev pub AllElements : Modulus → List ℕ → Type 0
AllElements F l = (j : ℕ) → get_or l j 0 < size F

module _ (F : Modulus) (dst src n f : ℕ) (l : List ℕ) where
  added : ℕ → List ℕ → ℕ
  added i s = get_or s (dst + i) 0 ⊕ mul F f (get_or s (src + i) 0)

  pub add-length : length (add_run F dst src n f l) ≡ length l
  unfolding add_run added
  add-length = stores-length dst added n l

  pub add-off : (j : ℕ) → Off dst n j → get_or (add_run F dst src n f l) j 0 ≡ get_or l j 0
  unfolding add_run added
  add-off = stores-off dst added n l

  pub add_at : dst + n ≤ length l → Clear dst src n → (i : ℕ) → i < n → get_or (add_run F dst src n f l) (dst + i) 0 ≡ get_or l (dst + i) 0 ⊕ mul F f (get_or l (src + i) 0)
  unfolding add_run added
  add_at fits clear i h =
      stores_at dst added n l i h fits
      ∙ ap₂ (λ (x y : ℕ). x ⊕ mul F f y) (stores-off dst added i l (dst + i) (inr (le_refl (dst + i)))) (stores-off dst added i l (src + i) (ahead clear h))

  pub add-elements : AllElements F l → AllElements F (add_run F dst src n f l)
  unfolding add_run added
  add-elements = stores-all dst added (λ x. x < size F) (λ i s h. add-lt (width F) _ _ (h (dst + i)) (mul-lt F f (get_or s (src + i) 0))) n l

module _ (F : Modulus) (at n f : ℕ) (l : List ℕ) where
  scaled : ℕ → List ℕ → ℕ
  scaled i s = mul F f (get_or s (at + i) 0)

  pub scale-length : length (scale_run F at n f l) ≡ length l
  unfolding scale_run scaled
  scale-length = stores-length at scaled n l

  pub scale-off : (j : ℕ) → Off at n j → get_or (scale_run F at n f l) j 0 ≡ get_or l j 0
  unfolding scale_run scaled
  scale-off = stores-off at scaled n l

  pub scale_at : at + n ≤ length l → (i : ℕ) → i < n → get_or (scale_run F at n f l) (at + i) 0 ≡ mul F f (get_or l (at + i) 0)
  unfolding scale_run scaled
  scale_at fits i h =
      stores_at at scaled n l i h fits ∙ ap (mul F f) (stores-off at scaled i l (at + i) (inr (le_refl (at + i))))

  pub scale-elements : AllElements F l → AllElements F (scale_run F at n f l)
  unfolding scale_run scaled
  scale-elements = stores-all at scaled (λ x. x < size F) (λ i s h. mul-lt F f (get_or s (at + i) 0)) n l

module _ (F : Modulus) (dst src n : ℕ) (l : List ℕ) where
  multiplied : ℕ → List ℕ → ℕ
  multiplied i s = mul F (get_or s (dst + i) 0) (get_or s (src + i) 0)

  pub mul-length : length (mul_run F dst src n l) ≡ length l
  unfolding mul_run multiplied
  mul-length = stores-length dst multiplied n l

  pub mul-off : (j : ℕ) → Off dst n j → get_or (mul_run F dst src n l) j 0 ≡ get_or l j 0
  unfolding mul_run multiplied
  mul-off = stores-off dst multiplied n l

  pub mul_at : dst + n ≤ length l → Clear dst src n → (i : ℕ) → i < n → get_or (mul_run F dst src n l) (dst + i) 0 ≡ mul F (get_or l (dst + i) 0) (get_or l (src + i) 0)
  unfolding mul_run multiplied
  mul_at fits clear i h =
      stores_at dst multiplied n l i h fits
      ∙ ap₂ (mul F) (stores-off dst multiplied i l (dst + i) (inr (le_refl (dst + i)))) (stores-off dst multiplied i l (src + i) (ahead clear h))

  pub mul-elements : AllElements F l → AllElements F (mul_run F dst src n l)
  unfolding mul_run multiplied
  mul-elements = stores-all dst multiplied (λ x. x < size F) (λ i s h. mul-lt F (get_or s (dst + i) 0) (get_or s (src + i) 0)) n l
