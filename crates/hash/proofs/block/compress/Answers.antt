use Rattle.std.proofs.Common.{◌≡◌, ◌+◌, ◌*◌, refl, ◌∙◌, ap, length-set, arith}
use Rattle.hash.specs.Sha.{compress, plus}
use Rattle.hash.proofs.Schedule.{loaded_more, ring_begun, at_start}
use Rattle.hash.proofs.block.compress.Goals as goal

pub loop-i-init : goal.loop-i-init
loop-i-init c = (refl, λ j h. omega arith)

pub loop-i-preserved : goal.loop-i-preserved
loop-i-preserved c =
    let long = c.loop-i.invariant.0 in
    (length-set c.loop-i.w c.loop-i.i c.load.result ∙ long, loaded_more _ c.loop-i.w (omega arith) c.load.ensures c.loop-i.invariant.1)

pub loop-turn-init : goal.loop-turn-init
loop-turn-init c =
    let s = c.args.s.now in
    let b = c.args.b.now in
    let ring = ring_begun b c.loop-i.w c.loop-i.invariant.0 (λ j h. c.loop-i.invariant.1 j (omega arith)) in
    let four = c.first_four-v.ensures s b ring at_start in
    (ring, c.first_four-v-4.ensures s b ring (c.first_four-v-3.ensures s b ring (c.first_four-v-2.ensures s b ring four)))

pub loop-turn-preserved : goal.loop-turn-preserved
loop-turn-preserved c =
    let s = c.args.s.now in
    let b = c.args.b.now in
    let t = 16 * c.loop-turn.turn in
    let e₀ : t ≡ t + 0 = omega arith in
    let e₁ : t + 0 + 4 ≡ t + 4 = omega arith in
    let e₂ : t + 4 + 4 ≡ t + 8 = omega arith in
    let e₃ : t + 8 + 4 ≡ t + 12 = omega arith in
    let e₄ : t + 12 + 4 ≡ 16 * (c.loop-turn.turn + 1) = omega arith in
    let four = c.turn_four-v.ensures s b (rw e₀ at c.loop-turn.invariant.0) (rw e₀ at c.loop-turn.invariant.1) in
    let eight = c.turn_four-v-in-loop-turn.ensures s b (rw e₁ at four.0) (rw e₁ at four.1) in
    let twelve = c.turn_four-v-in-loop-turn-2.ensures s b (rw e₂ at eight.0) (rw e₂ at eight.1) in
    let sixteen = c.turn_four-v-in-loop-turn-3.ensures s b (rw e₃ at twelve.0) (rw e₃ at twelve.1) in
    (rw e₄ at sixteen.0, rw e₄ at sixteen.1)

pub returns : goal.returns
unfolding compress
returns c =
    let done : c.loop-turn.turn ≡ 5 = omega arith in
    c.add.ensures ∙ ap (plus c.args.s.now) (rw done at c.loop-turn.invariant.1).state
