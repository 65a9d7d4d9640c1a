-- Each stage gives what the next asks, and each way out is a case of the definition.
use Rattle.std.proofs.Common.{◌∙◌, ◌+◌, arith}
use Rattle.std.proofs.lemmas.Result.{err_from_is_err_and}
use Rattle.making.proofs.Outcomes.{first_perm, second_perm, low, refused, few_multipliers, few_elements, no_window, dependent, pair, run_small, run_end, end_small, lists_fit}
use Rattle.making.proofs.make.Goals as goal

pub returns-in_err-draw_multipliers : goal.returns-in_err-draw_multipliers
returns-in_err-draw_multipliers c =
    let p = err_from_is_err_and c.from_residual.result c.from_residual.ensures.1 in
    refused _ _ _ _ _ _ _ p.1 (p.2 ∙ c.in_err-draw_multipliers.ensures.refusal) (few_multipliers _ _ c.in_err-draw_multipliers.ensures.few)

pub returns-in_err-draw_blocks : goal.returns-in_err-draw_blocks
returns-in_err-draw_blocks c =
    let p = err_from_is_err_and c.from_residual-in_err-draw_blocks.result c.from_residual-in_err-draw_blocks.ensures.1 in
    refused _ _ _ _ _ _ _ p.1 (p.2 ∙ c.in_err-draw_blocks.ensures.refusal) (few_elements _ _ c.in_ok-draw_multipliers.ensures.enough c.in_err-draw_blocks.ensures.none)

pub returns-in_err-window : goal.returns-in_err-window
returns-in_err-window c =
    let p = err_from_is_err_and c.from_residual-in_err-window.result c.from_residual-in_err-window.ensures.1 in
    refused _ _ _ _ _ _ _ p.1 (p.2 ∙ c.in_err-window.ensures.refusal) (no_window _ _ c.in_ok-draw_multipliers.ensures.enough _ c.in_ok-draw_blocks.ensures.found c.in_err-window.ensures.none)

pub invariant_of-entries-clause-first_low : goal.invariant_of-entries-clause-first_low
invariant_of-entries-clause-first_low c = low _ _ (first_perm _ _ _ c.draw_first.ensures) (c.draw_first.auto.order ∙ (rw c.cut-matrix.ensures at c.cut-matrix.result.first_len))

pub invariant_of-entries-clause-second_low : goal.invariant_of-entries-clause-second_low
invariant_of-entries-clause-second_low c = low _ _ (second_perm _ _ _ _ c.in_ok-window.ensures.order) (c.draw_second.auto.order ∙ (rw c.cut-matrix.ensures at c.cut-matrix.result.second_len))

pub returns-in_err-reduce : goal.returns-in_err-reduce
returns-in_err-reduce c =
    let p = err_from_is_err_and c.from_residual-in_err-reduce.result c.from_residual-in_err-reduce.ensures.1 in
    refused _ _ _ _ _ _ _ p.1 (p.2 ∙ c.in_err-reduce.ensures.refusal)
    (dependent _ _ c.in_ok-draw_multipliers.ensures.enough _ c.in_ok-draw_blocks.ensures.found _ c.in_ok-window.ensures.first c.in_ok-window.ensures.within _ c.in_ok-window.ensures.order c.in_err-reduce.ensures.few)

pub put_public-requires-clause-small : goal.put_public-requires-clause-small
put_public-requires-clause-small c =
    let a = c.args.parameters in
    end_small a.set a.valid c.requires.field c.args.random.now c.draw_blocks.new.blocks _ c.reduce.new.matrix c.in_ok-reduce.ensures.reduced c.draw_multipliers.new.multipliers c.put_run.new.run c.put_run.ensures
    (c.draw_blocks.auto.blocks ∙ (rw c.cut-matrix.ensures at c.cut-matrix.result.blocks_len)) (c.draw_multipliers.auto.multipliers ∙ (rw c.cut-matrix.ensures at c.cut-matrix.result.multipliers_len))

pub put_private-requires-clause-first : goal.put_private-requires-clause-first
put_private-requires-clause-first c = first_perm _ _ _ c.draw_first.ensures

pub put_private-requires-clause-second : goal.put_private-requires-clause-second
put_private-requires-clause-second c = second_perm _ _ _ _ c.in_ok-window.ensures.order

pub put_private-requires-clause-small : goal.put_private-requires-clause-small
put_private-requires-clause-small c =
    let a = c.args.parameters in
    run_small a.set a.valid c.requires.field c.args.random.now c.draw_blocks.new.blocks _ c.reduce.new.matrix c.in_ok-reduce.ensures.reduced c.draw_multipliers.new.multipliers c.put_run.new.run c.put_run.ensures

pub put_private-requires-clause-room : goal.put_private-requires-clause-room
put_private-requires-clause-room c =
    let s = c.args.parameters.set in
    let long = rw c.cut-matrix.ensures at c.cut-matrix.result.matrix_len in
    omega (arith, long, c.reduce.auto.matrix, lists_fit s.k (s.n + s.w) c.args.parameters.valid.some_k)

pub returns : goal.returns
returns c =
    let a = c.args.parameters in
    pair _ _ c.in_ok-draw_multipliers.ensures.enough _ c.in_ok-draw_blocks.ensures.found _ c.in_ok-window.ensures.first c.in_ok-window.ensures.within _ c.in_ok-window.ensures.order c.in_ok-reduce.ensures.full
    _ _ c.reduce.new.matrix _ _ _ c.in_ok-draw_multipliers.ensures.drawn c.draw_first.ensures c.in_ok-reduce.ensures.reduced
    (run_end a.set a.valid c.requires.field c.args.random.now c.draw_blocks.new.blocks _ c.reduce.new.matrix c.in_ok-reduce.ensures.reduced c.draw_multipliers.new.multipliers c.put_run.new.run c.put_run.ensures
    (c.draw_blocks.auto.blocks ∙ (rw c.cut-matrix.ensures at c.cut-matrix.result.blocks_len)) (c.draw_multipliers.auto.multipliers ∙ (rw c.cut-matrix.ensures at c.cut-matrix.result.multipliers_len)))
    c.put_public.ensures (c.put_private.ensures ∙ rw c.put_run.ensures)
