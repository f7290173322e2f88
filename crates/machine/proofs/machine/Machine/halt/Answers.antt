use Rattle.model.specs.Calls.{halts}
use Rattle.machine.proofs.Kept.{keeps, refused_stays}
use Rattle.machine.proofs.machine.Machine.halt.Goals as goal

pub returns-clause-refused : goal.returns-clause-refused
returns-clause-refused g c = let e = c.take_halt.ensures in refused_stays g.B.Bank.words _ _ (halts c.args.core) _ e.answer e.after e.bank

pub returns-clause-keeps : goal.returns-clause-keeps
returns-clause-keeps g c = keeps _ _ (halts c.args.core) c.take_halt.ensures.after
