use Rattle.std.proofs.Common.{refl, arith, ◌∙◌, ◌≡◌, ℕ, ◌<◌, ◌+◌, length, get_or}
use Rattle.gf.specs.Field.{mul, power}
use Rattle.gf.specs.Ten.{ten}
use Rattle.gf.proofs.Rows.{row_times-at}
use Rattle.code.proofs.Settling.{product-none, product-more, brought-is, sums-done, sums-rest}
use Rattle.code.proofs.settle.add_sums.Goals as goal

pub loop-j-init : goal.loop-j-init
loop-j-init c = record { done = λ i h. absurd (omega arith); rest = λ i h. refl; products = λ k h. product-none ten _ _ (c.requires.small.small k (omega arith)) }

pub loop-j-preserved : goal.loop-j-preserved
loop-j-preserved c =
    let l = c.loop-j in
    let p : (k : ℕ) → k < length c.args.points.now → get_or c.multiply.new.row k 0 ≡ mul ten (get_or c.args.values.now k 0) (power ten (get_or c.args.points.now k 0) (l.j + 1)) = λ k h.
    (rw c.multiply.ensures (row_times-at ten _ _ k (omega (arith, l.auto.values)))) ∙ product-more ten _ _ _ _ (l.invariant.products k h) in
    let x = brought-is ten _ _ _ _ _ (c.multiply.auto.row ∙ l.auto.values ∙ c.requires.same) p c.total.ensures in
    record {
      done = sums-done ten _ _ _ _ _ _ (omega (arith, l.auto.sums)) l.invariant.done (l.invariant.rest l.j (omega arith)) x;
      rest = sums-rest _ _ _ _ l.invariant.rest;
      products = p;
    }
