use Rattle.std.proofs.Common.{rules}
use Rattle.opening.proofs.Keyed.{given}
use Rattle.opening.proofs.Preparing.{lengths, small, mixed-in, plain-in, left, holds, fails}
use Rattle.opening.proofs.matrix.invert_w.Goals as goal

pub fill_rows-requires : goal.fill_rows-requires
fill_rows-requires c =
    let key = c.args.key.now in
    let s = key.parameters.set in
    let q = c.requires in
    record {
      lengths = lengths s key.bytes.now (given key) q.formed c.args.mixed.now c.args.plain.now q.mixed q.plain;
      few = small s key.bytes.now (given key) q.formed c.args.mixed.now c.args.plain.now q.mixed q.plain;
      whole = q.whole;
      ge = q.ge_len;
      mixed = mixed-in s key.bytes.now (given key) q.formed c.args.mixed.now c.args.plain.now q.mixed q.plain;
      plain = plain-in s key.bytes.now (given key) q.formed c.args.mixed.now c.args.plain.now q.mixed q.plain;
    }

pub invert-requires : goal.invert-requires
invert-requires c =
    let key = c.args.key.now in
    let s = key.parameters.set in
    let q = c.requires in
    record {
      half = left s key.bytes.now (given key) q.formed c.args.mixed.now c.args.plain.now q.mixed q.plain c.args.ge.now c.fill_rows.new.matrix q.ge (search rules) c.fill_rows.ensures;
      small = small s key.bytes.now (given key) q.formed c.args.mixed.now c.args.plain.now q.mixed q.plain;
    }

pub returns-in-Ok-clause-inverse : goal.returns-in-Ok-clause-inverse
returns-in-Ok-clause-inverse c =
    let key = c.args.key.now in
    let s = key.parameters.set in
    let q = c.requires in
    holds s key.bytes.now (given key) q.formed c.args.mixed.now c.args.plain.now q.mixed q.plain c.args.ge.now c.fill_rows.new.matrix q.ge (search rules) c.fill_rows.ensures
    c.in-Ok.ensures.answer c.invert.new.m (search rules) (search rules)

pub returns-in-Err-clause-singular : goal.returns-in-Err-clause-singular
returns-in-Err-clause-singular c =
    let key = c.args.key.now in
    let s = key.parameters.set in
    let q = c.requires in (
      q.formed,
      fails s key.bytes.now (given key) q.formed c.args.mixed.now c.args.plain.now q.mixed q.plain c.args.ge.now c.fill_rows.new.matrix q.ge (search rules) c.fill_rows.ensures c.in-Err.ensures.answer,
    )
