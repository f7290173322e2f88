use Rattle.bank.proofs.WindowLaws.{load_window, swap_window}
use Rattle.bank.proofs.window.WindowBank.swap.Goals as goal
use Rattle.std.proofs.Common.{rules}

pub returns : goal.returns
returns g c = search (rules, load_window, swap_window)
