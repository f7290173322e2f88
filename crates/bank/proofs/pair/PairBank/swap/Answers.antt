use Rattle.bank.proofs.PairLaws.{load-first, load-second, swap-first, swap-second}
use Rattle.bank.proofs.pair.PairBank.swap.Goals as goal
use Rattle.std.proofs.Common.{rules}

pub returns-then-i-eq0 : goal.returns-then-i-eq0
returns-then-i-eq0 g c = search (rules, load-first, swap-first)

pub returns-else-i-eq0 : goal.returns-else-i-eq0
returns-else-i-eq0 g c = search (rules, load-second, swap-second)
