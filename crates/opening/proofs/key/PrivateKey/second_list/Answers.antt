use Rattle.std.proofs.Common.{refl}
use Rattle.opening.proofs.Reading.{second_numbers}
use Rattle.opening.proofs.key.PrivateKey.second_list.Goals as goal

pub returns-clause-numbers : goal.returns-clause-numbers
returns-clause-numbers c = let self = c.args.self.now in second_numbers self.parameters.set self.bytes.now self.parameters.valid self.whole _ refl
