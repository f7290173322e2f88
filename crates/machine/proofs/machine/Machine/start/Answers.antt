use Rattle.model.specs.Calls.{starts}
use Rattle.machine.proofs.Kept.{keeps, refused_stays}
use Rattle.machine.proofs.machine.Machine.start.Goals as goal

pub returns-clause-refused : goal.returns-clause-refused
returns-clause-refused g c = let e = c.take_start.ensures in refused_stays g.B.Bank.words _ _ (starts c.args.core c.args.list.now) _ e.answer e.after e.bank

pub returns-clause-keeps : goal.returns-clause-keeps
returns-clause-keeps g c = keeps _ _ (starts c.args.core c.args.list.now) c.take_start.ensures.after
