-- Four times `ring_round`.
use Rattle.std.proofs.Common.{◌+◌, ◌*◌, refl, arith}
use Rattle.hash.proofs.Schedule.{ring_round}
use Rattle.hash.proofs.block.turn_four.Goals as goal

pub returns : goal.returns
returns c =
    λ s b ring a.
    let k = c.table-k.ensures in
    let p = c.args.p in
    let t = 16 * c.args.turn + p in
    let low = c.requires.later_turn.0 in
    let high = c.requires.later_turn.1 in
    let h = c.requires.place in
    let w₁ = c.next_word-word.ensures in
    let w₂ = c.next_word-word-2.ensures in
    let w₃ = c.next_word-word-3.ensures in
    let w₄ = c.next_word-word-4.ensures in
    let a₁ = ring_round {t = t} {t' = t + 1} k (omega arith) (omega arith) (omega arith) refl (w₁.value, w₁.ring) c.round-v.ensures (ring, a) in
    let a₂ = ring_round {t = t + 1} {t' = t + 2} k (omega arith) (omega arith) (omega arith) (omega arith) (w₂.value, w₂.ring) c.round-v-2.ensures a₁ in
    let a₃ = ring_round {t = t + 2} {t' = t + 3} k (omega arith) (omega arith) (omega arith) (omega arith) (w₃.value, w₃.ring) c.round-v-3.ensures a₂ in
    ring_round {t = t + 3} k (omega arith) (omega arith) (omega arith) (omega arith) (w₄.value, w₄.ring) c.round.ensures a₃
