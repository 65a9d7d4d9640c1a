-- Reading the kernel vector and the answer off the end of elimination.
use mathlib.Core.Path.{◌≡◌, sym, ◌∙◌}
use mathlib.Core.List.{List}
use Prim.Native.Nat.{ℕ, ◌+◌, ◌<◌, ◌≤◌}
use native.Mathlib.Omega.{arith}
use borrow.Author.Tests.{eq-eqb, ne_eqb, lt-ltb, le-ltb}
use Rattle.gf.specs.Ten.{ten}
use Rattle.std.specs.Prelude.{Ok, Err}
use Rattle.linear.specs.declared.inverse.Singular.{Singular}
use Rattle.linear.specs.Matrix.{Matrix, entry}
use Rattle.linear.specs.Elimination.{Ended, eliminated}
use Rattle.linear.specs.Inverse.{LeftHalf, beside, inverted, Inverts}
use Rattle.linear.specs.Kernel.{kernel_at}
use Rattle.linear.proofs.Beside.{beside-matrix}

module _ (cols r : ℕ) (l : List ℕ) (j : ℕ) where
  pub kernel-below : j < r → (x : ℕ) → x ≡ entry cols l j r → x ≡ kernel_at cols r l j
  kernel-below h x e = e ∙ rw (lt-ltb j r h)

  pub kernel-one : r ≤ j → j ≡ r → 1 ≡ kernel_at cols r l j
  kernel-one h e = rw (le-ltb j r h, eq-eqb j r e)

  pub kernel-zero : r ≤ j → (j ≡ r → ⊥) → 0 ≡ kernel_at cols r l j
  kernel-zero h d = rw (le-ltb j r h, ne_eqb j r d)

module _ (n : ℕ) (l₀ l₁ : List ℕ) (b : l₁ ≡ beside n l₀) where
  pub invert-ready : LeftHalf ten n l₀ → Matrix ten n (n + n) l₁
  invert-ready H = rw b (beside-matrix n l₀ ten H)

  module _ (l₂ : List ℕ) (r k : ℕ) (e : Ended (eliminated ten n (n + n) n l₁) n l₂ r k) where
    pub invert-found : n ≤ r → Inverts n (inverted ten n l₀) l₂ (Ok tt)
    unfolding inverted
    invert-found h =
        let q : r ≡ n = omega (arith, e.within) in
        rw (← b) (record { mat = e.mat; answer = sym e.cols ∙ q })

    pub invert-singular : (e : Singular) → r < n → Inverts n (inverted ten n l₀) l₂ (Err e)
    unfolding inverted
    invert-singular _ h = rw (← b) (record { mat = e.mat; answer = rw (← e.cols) h })
