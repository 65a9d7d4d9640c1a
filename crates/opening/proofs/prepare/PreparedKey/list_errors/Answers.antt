use Rattle.std.proofs.Common.{rules, arith, refl, not, eqb, get_or}
use Rattle.opening.specs.Held.{held}
use Rattle.opening.proofs.Accepting.{errors_listed, errors_counted}
use Rattle.opening.proofs.prepare.PreparedKey.list_errors.Goals as goal

pub returns-then-list_places-t-clause-refused : goal.returns-then-list_places-t-clause-refused
returns-then-list_places-t-clause-refused c =
    let s = c.args.self.now.key.parameters.set in
    let n = errors_counted s (held c.args.self.now.key) c.args.sent.now c.args.received.now c.requires.sent c.requires.encoded c.list_places.new.out c.list_places.result
    (c.list_places.ensures.listed (λ j. not (eqb (get_or c.args.sent.now j 0) (get_or c.args.received.now j 0))) (λ j yes a b post. search rules)) in
    (refl, λ e. omega arith)

pub returns-clause-places : goal.returns-clause-places
returns-clause-places c =
    let s = c.args.self.now.key.parameters.set in
    errors_listed s (held c.args.self.now.key) c.args.sent.now c.args.received.now c.requires.sent c.requires.encoded c.list_places.new.out c.list_places.result
    (c.list_places.ensures.listed (λ j. not (eqb (get_or c.args.sent.now j 0) (get_or c.args.received.now j 0))) (λ j yes a b post. search rules)) (omega arith)
