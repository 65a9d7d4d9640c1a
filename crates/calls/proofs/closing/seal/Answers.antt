-- Each first check is a case of the definition.
use Rattle.std.proofs.lemmas.Result.{err_from_is_err_and}
use Rattle.calls.proofs.SealLaws.{seal-refused, seal-wrong, seal-other, seal-done}
use Rattle.calls.proofs.closing.seal.Goals as goal

pub returns-in_err-parameters : goal.returns-in_err-parameters
returns-in_err-parameters c =
    let p = err_from_is_err_and c.from_residual.result c.from_residual.ensures.1 in
    rw (p.1, p.2) (seal-refused _ _ _ _ _ c.in_err-parameters.field-0.0 c.in_err-parameters.ensures.none)

pub returns-then-not-right_lengths : goal.returns-then-not-right_lengths
returns-then-not-right_lengths c = search (seal-wrong, c.in_ok-parameters.ensures.named)

pub returns-then-message-s : goal.returns-then-message-s
returns-then-message-s c = search (seal-other, c.in_ok-parameters.ensures.named)

pub returns : goal.returns
returns c = search (seal-done, c.in_ok-parameters.ensures.named)
