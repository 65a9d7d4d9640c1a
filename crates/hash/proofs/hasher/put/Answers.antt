use Rattle.std.proofs.Common.{◌≡◌, ◌+◌, List, ℕ, ◌++◌, take, ap, ◌∙◌, arith, length}
use Rattle.std.proofs.lemmas.Slice.{take-put_mid}
use Rattle.hash.specs.Sha.{bytes8}
use Rattle.hash.proofs.hasher.put.Goals as goal

pub returns : goal.returns
unfolding bytes8
returns c =
    let bytes = c.copy_from_slice.ensures.after ∙ c.to_be_bytes.ensures in
    let long : length c.copy_from_slice.new.self ≡ 8 = ap length bytes in
    take-put_mid c.args.at _ c.args.out.now c.copy_from_slice.new.self (c.args.at + 8) (omega (arith, long)) (omega arith)
    ∙ ap (λ (x : List ℕ). take c.args.at c.args.out.now ++ x) bytes
