use Rattle.std.proofs.Common.{◌∙◌, ap, length, arith}
use Rattle.gf.specs.Ten.{ten}
use Rattle.gf.proofs.Rows.{length-row_times}
use Rattle.making.proofs.Filled.{scaled_before, scaled_past, scaled_at}
use Rattle.making.proofs.entries.Entries.scaled.Goals as goal

pub returns-then-j-i : goal.returns-then-j-i
returns-then-j-i c = search scaled_before

pub returns-then-coefficients-j : goal.returns-then-coefficients-j
returns-then-coefficients-j c =
    let e = c.args.self.now in
    let long = ap length c.requires.coefficients ∙ length-row_times ten _ e.generator.now in
    scaled_past e.random.parameters.set e.random.bytes.now c.args.i c.args.j c.if-j-i.false (omega (arith, long, e.generator_len))

pub returns : goal.returns
returns c =
    let e = c.args.self.now in
    let long = ap length c.requires.coefficients ∙ length-row_times ten _ e.generator.now in
    rw c.requires.coefficients (scaled_at e.random.parameters.set e.random.bytes.now c.args.i c.args.j c.if-j-i.false e.generator.now e.multipliers.now e.generator_is e.multipliers_are (omega (arith, long)))
