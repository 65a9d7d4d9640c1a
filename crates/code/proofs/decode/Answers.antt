-- A code word at once, or the word corrected.
use Rattle.std.proofs.Common.{refl, rules, ◌∙◌}
use Rattle.gf.specs.Ten.{ten}
use Rattle.code.proofs.Deciding.{sums-small, near-itself}
use Rattle.code.proofs.decode.Goals as goal

pub returns-then-all_zero : goal.returns-then-all_zero
returns-then-all_zero c = near-itself ten _ c.args.t _ _ (c.power_sums.auto.sums ∙ c.cut-matrix.ensures.sums) (record { long = refl; small = record { small = c.requires.small }; sums_are = c.power_sums.ensures.sums }) (c.if-all_zero.ensures.0 (search rules))

pub find_places-r-requires-clause-small : goal.find_places-r-requires-clause-small
find_places-r-requires-clause-small c = sums-small ten _ _ _ c.power_sums.ensures.sums
