use Rattle.std.proofs.Common.{sym, refl, ap, ◌∙◌, rules}
use Rattle.cores.specs.declared.table.Table.{Table}
use Rattle.model.specs.Calls.{opens}
use Rattle.machine.specs.Opens.{receipt_for}
use Rattle.machine.specs.View.{view}
use Rattle.machine.proofs.Called.{refused_call, granted_call}
use Rattle.machine.proofs.Opened.{open_tests}
use Rattle.machine.proofs.machine.Machine.take_open.Goals as goal

pub returns-in_err-openable : goal.returns-in_err-openable
returns-in_err-openable g c =
    let w = view g.B.Bank.words c.args.self.now in
    let r = refused_call w (opens c.args.setting) c.in_err-openable.field-0.0 (sym (open_tests w c.args.setting) ∙ sym c.in_err-openable.ensures) in
    let answer = ap (receipt_for c.args.setting) r.0 in
    search (rules, answer, r.1)

pub returns : goal.returns
returns g c =
    let w = view g.B.Bank.words c.args.self.now in
    let r = granted_call w (opens c.args.setting) (sym (open_tests w c.args.setting) ∙ sym c.in_ok-openable.ensures) in
    record { answer = ap (receipt_for c.args.setting) r.0; after = ap (λ (t : Table). record { words = w.words; table = t }) c.opened_table-self.ensures ∙ r.1; bank = refl }
