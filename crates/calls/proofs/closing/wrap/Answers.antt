-- Each first check is a case of the definition.
use Rattle.std.proofs.lemmas.Result.{err_from_is_err_and}
use Rattle.calls.proofs.SealLaws.{wrap-refused, wrap-wrong, wrap-other, wrap-done}
use Rattle.calls.proofs.closing.wrap.Goals as goal

pub returns-in_err-parameters : goal.returns-in_err-parameters
returns-in_err-parameters c =
    let p = err_from_is_err_and c.from_residual.result c.from_residual.ensures.1 in
    rw (p.1, p.2) (wrap-refused _ _ _ _ _ c.in_err-parameters.field-0.0 c.in_err-parameters.ensures.none)

pub returns-then-not-right_lengths : goal.returns-then-not-right_lengths
returns-then-not-right_lengths c = search (wrap-wrong, c.in_ok-parameters.ensures.named)

pub returns-then-not-secret_fits : goal.returns-then-not-secret_fits
returns-then-not-secret_fits c = search (wrap-other, c.in_ok-parameters.ensures.named)

pub returns : goal.returns
returns c = search (wrap-done, c.in_ok-parameters.ensures.named)
