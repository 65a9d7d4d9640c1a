use Rattle.std.proofs.Common.{rules, arith, ◌≡◌, length}
use Rattle.opening.proofs.Keyed.{given}
use Rattle.opening.proofs.Permuting.{formed_of}
use Rattle.opening.proofs.Matrices.{half_within}
use Rattle.opening.proofs.Solved.{front_is, sent_is, vector-as}
use Rattle.opening.proofs.prepare.PreparedKey.find_vector.Goals as goal

pub combine-requires : goal.combine-requires
combine-requires c =
    let self = c.args.self.now in
    let right : length c.right_side.new.right ≡ length self.mixed.now = omega (arith, self.bounds.as_many) in
    record { rows = λ i h. rw c.requires.solved (half_within i (length self.mixed.now) self.matrix.now self.inverse.long (omega arith)) }

pub returns-clause-vector : goal.returns-clause-vector
returns-clause-vector c =
    let self = c.args.self.now in
    let key = self.key in
    let s = key.parameters.set in
    let x : length c.spread.new.vector ≡ s.k = search rules in
    let right : length c.right_side.new.right ≡ length self.mixed.now = omega (arith, self.bounds.as_many) in
    rw (front_is s.k c.spread.new.vector c.encode-2.new.tail x)
    (vector-as s key.bytes.now (given key) (formed_of s key.bytes.now self.formed) self.mixed.now self.mixed_is
    c.args.word.now c.read_back.new.vector c.encode.new.tail c.right_side.new.right c.combine.new.out c.spread.new.vector self.matrix.now
    x c.read_back.ensures (search rules) c.encode.ensures (search rules) c.right_side.ensures right self.inverse c.combine.ensures (search rules) c.spread.ensures.mixed c.spread.ensures.others)

pub returns-clause-sent : goal.returns-clause-sent
returns-clause-sent c =
    let s = c.args.self.now.key.parameters.set in
    let x : length c.spread.new.vector ≡ s.k = search rules in
    rw (front_is s.k c.spread.new.vector c.encode-2.new.tail x) (sent_is s _ c.spread.new.vector c.encode-2.new.tail x c.encode-2.ensures)
