use Rattle.bank.proofs.PairLaws.{load_first, load_second}
use Rattle.bank.proofs.pair.PairBank.load.Goals as goal
use Rattle.std.proofs.Common.{rules}

pub returns-then-i-eq0 : goal.returns-then-i-eq0
returns-then-i-eq0 g c = search (rules, load_first)

pub returns-else-i-eq0 : goal.returns-else-i-eq0
returns-else-i-eq0 g c = search (rules, load_second)
