use Rattle.std.proofs.Common.{ap, ◌∙◌}
use Rattle.model.specs.World.{World}
use Rattle.machine.specs.declared.machine.Machine.{Machine}
use Rattle.machine.specs.Runs.{answers_to}
use Rattle.machine.specs.View.{view}
use Rattle.machine.proofs.Played.{open_granted, open_refused, still_open, closed_words}
use Rattle.machine.proofs.run.play.Goals as goal

pub finish-requires : goal.finish-requires
finish-requires g c =
    let words = g.B.Bank.words in
    let o = open_granted words c.args.bank c.args.setting c.over-machine.result c.open.new.self c.over-machine.ensures c.open.result c.open.ensures.answer c.open.ensures.after c.in-Ok.receipt c.in-Ok.is in
    still_open (words c.args.bank) c.args.setting c.args.requests.now (view words c.open.new.self) (view words c.ask_all.new.machine) o.0 o.1 c.ask_all.ensures.after

pub returns-in-Ok-clause-played : goal.returns-in-Ok-clause-played
returns-in-Ok-clause-played g c =
    let words = g.B.Bank.words in
    let o = open_granted words c.args.bank c.args.setting c.over-machine.result c.open.new.self c.over-machine.ensures c.open.result c.open.ensures.answer c.open.ensures.after c.in-Ok.receipt c.in-Ok.is in
    let left = closed_words (words c.args.bank) c.args.setting c.args.requests.now (view words c.open.new.self) (view words c.ask_all.new.machine) (view words c.finish.new.machine) o.1 c.ask_all.ensures.after c.finish.ensures in
    (o.0, c.ask_all.ensures.answers ∙ ap (λ (w : World). answers_to w c.args.requests.now) o.1, ap words c.into_bank.ensures ∙ left)

pub returns-in-Err-clause-played : goal.returns-in-Err-clause-played
returns-in-Err-clause-played g c =
    let words = g.B.Bank.words in
    let q = open_refused words c.args.bank c.args.setting c.over-machine.result c.open.new.self c.over-machine.ensures c.open.result c.open.ensures.answer c.open.ensures.after c.in-Err.refusal c.in-Err.is in
    (q, ap words (c.into_bank-in-Err.ensures ∙ c.open.ensures.bank ∙ ap (λ (m : Machine g.row.B.Denot). m.bank) c.over-machine.ensures))
