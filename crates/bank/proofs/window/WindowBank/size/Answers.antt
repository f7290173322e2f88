use Rattle.bank.proofs.WindowLaws.{length_window}
use Rattle.bank.proofs.window.WindowBank.size.Goals as goal
use Rattle.std.proofs.Common.{rules}

pub returns-clause-size : goal.returns-clause-size
returns-clause-size g c = search (rules, length_window)
