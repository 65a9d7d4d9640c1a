-- Laws of parts: what was put is there, and what lies before and after is as it was.
use mathlib.Core.Path.{◌≡◌, sym, ap, ◌∙◌}
use mathlib.Core.List.{List, ◌++◌}
use Prim.Native.Nat.{ℕ, ◌+◌, ◌≤◌}
use native.Mathlib.Omega.{arith}
use lib.ListN.{length, take, drop, length-take, length-drop, length-append, take-append-drop}
use lib.Seq.{take_at, drop_at, length-take-le, take-append-le, drop-append-le}
use Rattle.lists.specs.Parts.{part, put}

pub part_length : (a n : ℕ) (l : List ℕ) → a + n ≤ length l → length (part a n l) ≡ n
part_length a n l h = simp (length-take, length-drop) (omega arith)

part-front : (x r : List ℕ) (b j : ℕ) → b + j ≤ length x → part b j (x ++ r) ≡ part b j x
part-front x r b j h =
    let h₁ : b ≤ length x = omega arith in
    let h₂ : j ≤ length (drop b x) = simp length-drop (omega arith) in
    rw (drop-append-le b x r h₁, take-append-le j (drop b x) r h₂)

module _ (a k : ℕ) (p l : List ℕ) (fits : a + k ≤ length l) (same : length p ≡ k) where
  head : length (take a l) ≡ a
  head = let h : a ≤ length l = omega arith in length-take-le a l h

  pub put-length : length (put a k p l) ≡ length l
  put-length = simp (length-append, length-drop) (omega (arith, head))

  -- the part is what was put there
  pub put_same : part a k (put a k p l) ≡ p
  put_same = rw (drop_at (take a l) (p ++ drop k (drop a l)) a head) (take_at p (drop k (drop a l)) k same)

  -- what lies before is as it was
  pub put-before : (b j : ℕ) → b + j ≤ a → part b j (put a k p l) ≡ part b j l
  put-before b j h =
      let h₁ : b + j ≤ length (take a l) = omega (arith, head) in
      part-front (take a l) (p ++ drop k (drop a l)) b j h₁ ∙ sym (part-front (take a l) (drop a l) b j h₁) ∙ ap (part b j) (take-append-drop a l)
