use Rattle.std.proofs.Common.{refl}
use Rattle.opening.proofs.Reading.{first_numbers}
use Rattle.opening.proofs.key.PrivateKey.first_list.Goals as goal

pub returns-clause-numbers : goal.returns-clause-numbers
returns-clause-numbers c = let self = c.args.self.now in first_numbers self.parameters.set self.bytes.now self.parameters.valid self.whole _ refl
