use Rattle.std.proofs.Common.{sym, refl, ◌∙◌}
use Rattle.model.specs.Calls.{shows}
use Rattle.machine.specs.View.{view}
use Rattle.machine.proofs.Kept.{keeps}
use Rattle.machine.proofs.Looked.{shown_is, looked_world}
use Rattle.machine.proofs.machine.Machine.shown.Goals as goal

pub returns : goal.returns
returns g c =
    let w = view g.B.Bank.words c.args.self.now in
    let e = looked_world w (shows c.args.at) refl in
    record { answer = c.look_shown.ensures ∙ shown_is w c.args.at; after = sym e; keeps = keeps w w (shows c.args.at) e }
