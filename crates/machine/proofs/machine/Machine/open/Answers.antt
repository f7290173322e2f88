use Rattle.std.proofs.Common.{refl}
use Rattle.model.specs.Calls.{opens}
use Rattle.machine.specs.View.{view}
use Rattle.machine.proofs.Kept.{keeps, refused_stays}
use Rattle.machine.proofs.Opened.{open_begins, receipt_ok}
use Rattle.machine.proofs.machine.Machine.open.Goals as goal

pub returns-clause-refused : goal.returns-clause-refused
returns-clause-refused g c refused =
    let e = c.take_open.ensures in
    let s = c.args.setting in
    refused_stays g.B.Bank.words _ _ (opens s) _ refl e.after e.bank (receipt_ok s _ _ e.answer refused)

pub returns-clause-keeps : goal.returns-clause-keeps
returns-clause-keeps g c = keeps _ _ (opens c.args.setting) c.take_open.ensures.after

pub returns-clause-begins : goal.returns-clause-begins
returns-clause-begins g c = open_begins (view g.B.Bank.words c.args.self.now) _ c.args.setting c.take_open.ensures.after
