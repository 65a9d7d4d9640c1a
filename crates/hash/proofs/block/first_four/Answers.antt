-- Four times `loaded_round`.
use Rattle.std.proofs.Common.{◌+◌, refl, arith}
use Rattle.hash.proofs.Schedule.{loaded_round}
use Rattle.hash.proofs.block.first_four.Goals as goal

pub returns : goal.returns
returns c =
    λ s b ring a.
    let k = c.table-k.ensures in
    let t = c.args.t in
    let h = c.requires in
    let a₁ = loaded_round {t = t} {t' = t + 1} k (omega arith) refl ring c.round-v.ensures a in
    let a₂ = loaded_round {t = t + 1} {t' = t + 2} k (omega arith) (omega arith) ring c.round-v-2.ensures a₁ in
    let a₃ = loaded_round {t = t + 2} {t' = t + 3} k (omega arith) (omega arith) ring c.round-v-3.ensures a₂ in
    loaded_round {t = t + 3} k (omega arith) (omega arith) ring c.round.ensures a₃
