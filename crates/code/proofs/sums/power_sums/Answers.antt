use Rattle.std.proofs.Common.{rules, arith, ◌≡◌, ◌+◌, ◌-◌, length}
use Rattle.gf.specs.Ten.{ten}
use Rattle.code.proofs.Horner.{sums-none, sums-more, sums-all}
use Rattle.code.proofs.sums.power_sums.Goals as goal

pub loop-i-init : goal.loop-i-init
loop-i-init c = sums-none ten _ _ _ (length c.args.sums.now) _ (search rules) (omega arith)

pub loop-i-preserved : goal.loop-i-preserved
loop-i-preserved c =
    let l = c.loop-i in
    let q : l.i - 1 + 1 ≡ l.i = omega arith in
    sums-more ten _ _ (l.i - 1) _ _ _ (rw q l.invariant) c.fill_powers.ensures (omega (arith, l.auto.sums, c.fill.ensures.len, c.fill_powers.auto.powers, c.requires.same)) c.horner.auto.sums c.requires.small (omega arith) c.horner.ensures

pub returns-clause-sums : goal.returns-clause-sums
returns-clause-sums c = let z : c.loop-i.i ≡ 0 = omega arith in sums-all ten _ _ _ (rw z at c.loop-i.invariant)
