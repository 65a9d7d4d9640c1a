-- The products, then the sums.
use Rattle.std.proofs.Common.{ap, ◌∙◌, arith, ℕ}
use Rattle.gf.specs.Field.{◌⊕◌}
use Rattle.gf.specs.Ten.{ten}
use Rattle.gf.proofs.Rows.{row_times-at}
use Rattle.code.proofs.sums.horner.Goals as goal

pub returns : goal.returns
returns c j h = c.add_to_all.ensures j (omega arith) ∙ ap (λ (x : ℕ). x ⊕ c.args.x) (rw c.multiply.ensures (row_times-at ten _ _ j h))
