use Rattle.bank.proofs.PairLaws.{length_paired}
use Rattle.bank.proofs.pair.PairBank.size.Goals as goal
use Rattle.std.proofs.Common.{rules}

pub returns : goal.returns
returns g c = search (rules, length_paired)
