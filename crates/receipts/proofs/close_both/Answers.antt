use Rattle.machine.proofs.Played.{open_runs}
use Rattle.receipts.proofs.close_both.Goals as goal

pub close-closed-requires : goal.close-closed-requires
close-closed-requires g c =
    open_runs g.B.Bank.words _ c.open.new.self c.args.setting c.open.result c.in_ok-first.first c.open.ensures.answer c.open.ensures.after c.in_ok-first.was

pub close-again-requires : goal.close-again-requires
close-again-requires g c =
    open_runs g.B.Bank.words _ c.open-2.new.self c.args.setting c.open-2.result c.in_ok-second.second c.open-2.ensures.answer c.open-2.ensures.after c.in_ok-second.was
