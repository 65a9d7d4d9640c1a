use Rattle.std.proofs.Common.{ℕ, ◌+◌, ◌*◌, length, refl, ap, ◌∙◌, rules, arith}
use Rattle.bits.specs.Bits.{elements_at}
use Rattle.sealing.proofs.Words.{row_first, row_next, summed_none, summed_more, encoded_parts}
use Rattle.sealing.proofs.word.encode.Goals as goal

pub loop-x-init : goal.loop-x-init
loop-x-init c =
    let cols = length c.args.row.now in
    let x = c.args.vector.now in (
      row_first c.args.m cols,
      rw (c.fill.ensures.after (λ y e. e))
          (summed_none (elements_at (length x * cols) c.args.m c.args.key.now 8) x cols (length c.split_at_mut-front.result.1.now) (search rules)),
    )

pub loop-x-preserved : goal.loop-x-preserved
loop-x-preserved c =
    let a = c.args in
    let l = c.loop-x in
    let cols = length a.row.now in (
      c.elements-place.ensures.place ∙ ap (λ (n : ℕ). l.place + a.m * n) l.auto.row ∙ row_next a.m l.x-index cols l.place l.invariant.0,
      summed_more a.m (length a.vector.now) cols l.place l.x-index _ a.key.now a.vector.now _ l.sums (omega arith) l.invariant.0
          (c.elements-place.ensures.elements ∙ ap (λ (n : ℕ). elements_at n a.m a.key.now l.place) l.auto.row) refl (search rules) c.add_multiple.ensures
          l.invariant.1,
    )

pub returns : goal.returns
returns c =
    let a = c.args in
    encoded_parts (elements_at (length a.vector.now * length a.row.now) a.m a.key.now 8) a.vector.now c.loop-x.sums (length a.row.now) c.loop-x.x-index (search rules)
    c.copy_from_slice.ensures.after c.loop-x.invariant.1
