use Rattle.model.specs.Calls.{collects}
use Rattle.machine.proofs.Kept.{keeps, refused_stays}
use Rattle.machine.proofs.machine.Machine.collect.Goals as goal

pub returns-clause-refused : goal.returns-clause-refused
returns-clause-refused g c = let e = c.take_answer.ensures in refused_stays g.B.Bank.words _ _ (collects c.args.core) _ e.answer e.after e.bank

pub returns-clause-keeps : goal.returns-clause-keeps
returns-clause-keeps g c = keeps _ _ (collects c.args.core) c.take_answer.ensures.after
