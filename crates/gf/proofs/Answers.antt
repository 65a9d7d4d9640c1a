-- The logarithm's contract leaves one answer to each number.
use mathlib.Core.Path.{◌≡◌, sym, ap, ◌∙◌}
use Prim.Native.Nat.{ℕ, ◌<◌}
use native.Mathlib.Omega.{arith}
use native.Mathlib.Decide.{dec_lt, ℕ_discrete}
use Rattle.std.specs.Prelude.{Option, Some, None, IsSomeAnd}
use Rattle.gf.specs.Field.{size, Logarithm}
use Rattle.gf.specs.Ten.{ten}
use Rattle.gf.specs.Answers.{LogarithmAnswer}
use Rattle.gf.proofs.Cyclic.{log-only}
use Rattle.gf.proofs.Ten.{ten-field}

one-logarithm : (a : ℕ) (r s : Option ℕ) → IsSomeAnd r (Logarithm ten a) → IsSomeAnd s (Logarithm ten a) → r ≡ s
one-logarithm a None s p q = elim p [ ]
one-logarithm a (Some x) None p q = elim q [ ]
one-logarithm a (Some x) (Some y) p q = ap Some (log-only ten-field p q)

pub logarithm-only : (a : ℕ) (r s : Option ℕ) → LogarithmAnswer a r → LogarithmAnswer a s → r ≡ s
logarithm-only a r s p q = go (dec_lt a (size ten)) (ℕ_discrete a 0)
  where
    go : Dec (a < size ten) → Dec (a ≡ 0) → r ≡ s
    go (no l) z = p.outside (omega arith) ∙ sym (q.outside (omega arith))
    go (yes l) (yes z) = p.of_zero z ∙ sym (q.of_zero z)
    go (yes l) (no z) = one-logarithm a r s (p.given (omega arith) l) (q.given (omega arith) l)
