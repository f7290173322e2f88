use Rattle.bank.proofs.WindowLaws.{load_window}
use Rattle.bank.proofs.window.WindowBank.load.Goals as goal
use Rattle.std.proofs.Common.{rules}

pub returns : goal.returns
returns g c = search (rules, load_window)
