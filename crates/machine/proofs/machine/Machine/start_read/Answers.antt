use Rattle.model.specs.Calls.{reads}
use Rattle.machine.proofs.Kept.{keeps, refused_stays}
use Rattle.machine.proofs.machine.Machine.start_read.Goals as goal

pub returns-clause-refused : goal.returns-clause-refused
returns-clause-refused g c = let e = c.take_start.ensures in refused_stays g.B.Bank.words _ _ (reads c.args.core c.args.word) _ e.answer e.after e.bank

pub returns-clause-keeps : goal.returns-clause-keeps
returns-clause-keeps g c = keeps _ _ (reads c.args.core c.args.word) c.take_start.ensures.after
