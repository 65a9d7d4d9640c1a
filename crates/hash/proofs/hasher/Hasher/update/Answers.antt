-- The part ends within the block that is begun (`few`), or completes it (`many`).
use Rattle.std.proofs.Common.{◌≡◌, ◌+◌, ◌-◌, ◌*◌, ◌/◌, ◌%◌, ℕ, List, sym, ap, ap₂, ◌∙◌, arith, length}
use Rattle.std.proofs.lemmas.Slice.{between_to_end}
use Rattle.lists.specs.Parts.{put}
use Rattle.hash.proofs.Update.{few, many}
use Rattle.hash.proofs.hasher.Hasher.update.Goals as goal

pub returns-then-s-room-clause-goes_on : goal.returns-then-s-room-clause-goes_on
returns-then-s-room-clause-goes_on c =
    let h = c.args.self.now in
    let s = c.args.s.now in
    let n = h.len % 128 in
    let k : n + length s - n ≡ length s = omega arith in
    few h.state h.rest h.len s c.if-s-room.true (ap₂ (λ (k : ℕ) (p : List ℕ). put n k p h.rest) k c.copy_from_slice.ensures.after)

pub returns-clause-goes_on : goal.returns-clause-goes_on
returns-clause-goes_on c =
    let h = c.args.self.now in
    let n = h.len % 128 in
    let first = c.copy_from_slice-2.ensures.after ∙ c.split_at.ensures.front in
    let t = c.split_at.result.1.now in
    let last = c.copy_from_slice-3.ensures.after in
    let to_end = between_to_end t (length t / 128 * 128) (length t) (omega arith) in
    many h.state h.rest h.len c.args.s.now {u = c.copy_from_slice-3.new.self} c.if-s-room.false (ap (λ (p : List ℕ). put n (128 - n) p h.rest) first)
    c.compress.ensures c.split_at.ensures.back c.blocks-2.ensures (last ∙ to_end)
    (ap (λ (k : ℕ). put 0 k c.copy_from_slice-3.new.self (put n (128 - n) c.copy_from_slice-2.new.self h.rest)) (sym (ap length last)))
