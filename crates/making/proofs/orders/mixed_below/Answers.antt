-- Each of the fewer than 2 ^ 64 numbers that are added is 0 or 1.
use Rattle.std.proofs.Common.{rules, tests, ◌≤◌, ◌^◌, length, arith}
use Rattle.std.proofs.lemmas.Iterator.{YieldsList-from_slice}
use Rattle.std.proofs.lemmas.Iterator.Adapters.{fits_from_length, at_most_from_yields_List}
use Rattle.making.proofs.orders.mixed_below.Goals as goal

pub sum-requires-clause-fits : goal.sum-requires-clause-fits
sum-requires-clause-fits c =
    let few : length c.iter.result.rest.now ≤ 2 ^ 63 = omega (arith, c.iter.ensures.bound) in
    fits_from_length _ _ (2 ^ 63) (2 ^ 64) (at_most_from_yields_List (YieldsList-from_slice c.iter.result.rest.now cc) few) c.map.ensures.closure (omega arith) (λ x r q k. search (rules, tests))
