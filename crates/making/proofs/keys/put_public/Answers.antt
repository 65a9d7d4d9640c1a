use Rattle.std.proofs.Common.{arith}
use Rattle.scheme.specs.Keys.{public_key}
use Rattle.making.proofs.KeyLaws.{first_byte}
use Rattle.making.proofs.keys.put_public.Goals as goal

pub returns : goal.returns
unfolding public_key
returns c = rw (first_byte c.split_at_mut-byte.result.0.now c.args.parameters.set.byte (omega arith), c.pack.ensures)
