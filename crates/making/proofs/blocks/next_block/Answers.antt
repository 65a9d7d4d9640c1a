use Rattle.std.proofs.Common.{◌∙◌, sym, refl, arith}
use Rattle.making.proofs.Searching.{skipped_more, skipped_found, skipped_end}
use Rattle.making.proofs.blocks.next_block.Goals as goal

pub returns-then-determinant-ne0-clause-found : goal.returns-then-determinant-ne0-clause-found
returns-then-determinant-ne0-clause-found c = skipped_found _ c.loop-rest.rest.now _ c.loop-rest.invariant (omega arith) refl (λ e. c.if-determinant-ne0.true (c.determinant.ensures ∙ e)) _ refl refl refl refl

pub loop-rest-preserved : goal.loop-rest-preserved
loop-rest-preserved c = skipped_more _ c.loop-rest.rest.now _ c.loop-rest.invariant (omega arith) refl (sym c.determinant.ensures ∙ c.if-determinant-ne0.false)

pub returns-clause-none : goal.returns-clause-none
returns-clause-none c = skipped_end _ _ c.loop-rest.invariant (omega arith)
