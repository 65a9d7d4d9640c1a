-- The definitions of sealing and wrapping, case by case.
use mathlib.Core.Path.{◌≡◌, sym, ap, ap₂, ◌∙◌}
use mathlib.Core.Bool.{Bool, true, false, ◌&&◌}
use mathlib.Core.List.{List, [], ◌∷◌, ◌++◌}
use Prim.Native.Nat.{ℕ, ◌+◌, ◌-◌, ◌≤◌}
use native.Mathlib.Omega.{arith}
use lib.Dec.{leb}
use lib.ListN.{length, take, drop, replicate, length-replicate, replicate-append-replicate}
use lib.Seq.{take_at, drop_at}
use borrow.Author.Tests.{eq-eqb, ne_eqb}
use Rattle.sets.specs.declared.Set.{Set}
use Rattle.std.specs.Prelude.{Some, Err}
use Rattle.scheme.specs.declared.Refusal.TheVariants.{WrongLength, WrongSecret}
use Rattle.scheme.specs.Answers.{Answer}
use Rattle.scheme.specs.Sealing.{secret_message}
use Rattle.scheme.specs.Calls.{SealEnd, seal_lengths, after_seal, seal_of, seal_ends, wrap_of, wrap_ends}
use Rattle.scheme.specs.declared.Refusal.{Refusal}
use Rattle.calls.specs.Given.{NamesSet, NamesNone}
use Rattle.calls.specs.Ends.{seal_end}

-- ---- wrapping
pub laid : (s : Set) (secret front room : List ℕ) (n : ℕ) → length secret ≤ s.k1 → s.k1 ≤ n → front ≡ secret → room ≡ take s.k1 (replicate n 0)
    → front ++ drop (length secret) room ≡ secret_message s secret
unfolding secret_message
laid s secret front room n fits small e z =
    let i : ℕ = n - s.k1 in
    let j : ℕ = s.k1 - length secret in
    let a : n ≡ s.k1 + i = omega arith in
    let b : s.k1 ≡ length secret + j = omega arith in
    let v : room ≡ replicate s.k1 0 = z ∙ ap (λ (k : ℕ). take s.k1 (replicate k 0)) a ∙ ap (take s.k1) (sym (replicate-append-replicate s.k1 i 0)) ∙ take_at (replicate s.k1 0) (replicate i 0) s.k1 (length-replicate {A = ℕ} s.k1 0) in
    let w : room ≡ replicate (length secret) 0 ++ replicate j 0 = v ∙ ap (λ (k : ℕ). replicate k 0) b ∙ sym (replicate-append-replicate (length secret) j 0) in
    ap₂ ◌++◌ e (ap (drop (length secret)) w ∙ drop_at (replicate (length secret) 0) (replicate j 0) (length secret) (length-replicate {A = ℕ} (length secret) 0))

pub wrapped : (s : Set) (key random secret cipher work msg : List ℕ) (x : SealEnd) → x ≡ after_seal s key random msg cipher work → msg ≡ secret_message s secret
    → x ≡ after_seal s key random (secret_message s secret) cipher work
wrapped s key random secret cipher work msg x q e = q ∙ rw e

-- ---- the first checks
pub seal-refused : (key random msg cipher work : List ℕ) (e : Refusal) → NamesNone key e → seal_end (Err e) cipher work ≡ seal_ends key random msg cipher work
unfolding seal_ends
seal-refused [] random msg cipher work e q = rw q
seal-refused (byte ∷ key) random msg cipher work e (n, q) = rw (n, q)

pub wrap-refused : (key random msg cipher work : List ℕ) (e : Refusal) → NamesNone key e → seal_end (Err e) cipher work ≡ wrap_ends key random msg cipher work
unfolding wrap_ends
wrap-refused [] random msg cipher work e q = rw q
wrap-refused (byte ∷ key) random msg cipher work e (n, q) = rw (n, q)

seal-past : (s : Set) (key random msg cipher work : List ℕ) → NamesSet key s → seal_ends key random msg cipher work ≡ seal_of (Some s) key random msg cipher work
unfolding seal_ends
seal-past s [] random msg cipher work h = absurd h
seal-past s (byte ∷ key) random msg cipher work h = rw h

wrap-past : (s : Set) (key random msg cipher work : List ℕ) → NamesSet key s → wrap_ends key random msg cipher work ≡ wrap_of (Some s) key random msg cipher work
unfolding wrap_ends
wrap-past s [] random msg cipher work h = absurd h
wrap-past s (byte ∷ key) random msg cipher work h = rw h

module _ (s : Set) (key random cipher work : List ℕ) (t : Bool) (is : t ≡ seal_lengths s (length key) (length random) (length cipher) (length work)) where
  module _ (h : t ≡ true) where
    right : seal_lengths s (length key) (length random) (length cipher) (length work) ≡ true
    right = sym is ∙ h

  module _ (named : NamesSet key s) (msg : List ℕ) where
    pub seal-wrong : t ≡ false → seal_end (Err WrongLength) cipher work ≡ seal_ends key random msg cipher work
    seal-wrong h = sym (rw (seal-past s key random msg cipher work named, ← is, h))

    pub wrap-wrong : t ≡ false → seal_end (Err WrongLength) cipher work ≡ wrap_ends key random msg cipher work
    wrap-wrong h = sym (rw (wrap-past s key random msg cipher work named, ← is, h))

    module _ (h : t ≡ true) where
      pub seal-other : (length msg ≡ s.k1 → ⊥) → seal_end (Err WrongLength) cipher work ≡ seal_ends key random msg cipher work
      seal-other d = sym (rw (seal-past s key random msg cipher work named, right h, ne_eqb (length msg) s.k1 d))

      pub seal-done : length msg ≡ s.k1 → (r r₁ : Answer) (cipher₁ work₁ : List ℕ) → r₁ ≡ r → seal_end r cipher₁ work₁ ≡ after_seal s key random msg cipher work → seal_end r₁ cipher₁ work₁ ≡ seal_ends key random msg cipher work
      seal-done d r r₁ cipher₁ work₁ e q =
          ap (λ (r : Answer). seal_end r cipher₁ work₁) e ∙ q ∙ sym (rw (seal-past s key random msg cipher work named, right h, eq-eqb (length msg) s.k1 d))

      pub wrap-other : (u : Bool) → u ≡ leb 1 (length msg) && leb (length msg) s.k1 → u ≡ false → seal_end (Err WrongSecret) cipher work ≡ wrap_ends key random msg cipher work
      wrap-other u q d = sym (rw (wrap-past s key random msg cipher work named, right h, ← q, d))

      pub wrap-done : (u : Bool) → u ≡ leb 1 (length msg) && leb (length msg) s.k1 → u ≡ true → (r r₁ : Answer) (cipher₁ work₁ : List ℕ) → r₁ ≡ r → seal_end r cipher₁ work₁ ≡ after_seal s key random (secret_message s msg) cipher work → seal_end r₁ cipher₁ work₁ ≡ wrap_ends key random msg cipher work
      wrap-done u p d r r₁ cipher₁ work₁ e q =
          ap (λ (r : Answer). seal_end r cipher₁ work₁) e ∙ q ∙ sym (rw (wrap-past s key random msg cipher work named, right h, ← p, d))
