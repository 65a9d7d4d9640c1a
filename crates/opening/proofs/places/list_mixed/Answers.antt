use Rattle.std.proofs.Common.{rules, ◌-◌, not, ltb, get_or}
use Rattle.opening.proofs.Parting.{mixed-listed, le_not}
use Rattle.opening.proofs.places.list_mixed.Goals as goal

pub returns-clause-places : goal.returns-clause-places
returns-clause-places c =
    let s = c.args.key.now.parameters.set in
    mixed-listed s _ c.args.second.now c.list_places.new.out c.list_places.result c.requires.second (search rules)
    (c.list_places.ensures.listed (λ j. not (ltb (get_or c.args.second.now j 0) (s.n - s.w))) (λ j yes a b post. search (rules, le_not)))
