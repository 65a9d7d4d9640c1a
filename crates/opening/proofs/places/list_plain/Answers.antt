use Rattle.std.proofs.Common.{rules, ◌-◌, ltb, get_or}
use Rattle.opening.proofs.Keyed.{given}
use Rattle.opening.proofs.Parting.{plain-listed}
use Rattle.opening.proofs.places.list_plain.Goals as goal

pub returns : goal.returns
returns c =
    let key = c.args.key.now in
    let s = key.parameters.set in
    plain-listed s key.bytes.now (given key) c.requires.formed c.args.second.now c.list_places.new.out c.list_places.result c.requires.second (search rules)
    (c.list_places.ensures.listed (λ j. ltb (get_or c.args.second.now j 0) (s.n - s.w)) (λ j yes a b post. search rules))
