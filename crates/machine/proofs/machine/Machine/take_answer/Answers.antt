use Rattle.std.proofs.Common.{ℕ, Option, sym, ap, ◌∙◌, rules}
use Rattle.std.specs.Option.{ok_or}
use Rattle.cores.specs.declared.table.Refusal.TheVariants.{NoAnswer}
use Rattle.cores.specs.Cores.{collection, after_collect}
use Rattle.model.specs.World.{core_at, with_core}
use Rattle.model.specs.Calls.{collects}
use Rattle.model.specs.Perform.{Performed}
use Rattle.machine.specs.View.{view}
use Rattle.machine.proofs.Called.{refused_call}
use Rattle.machine.proofs.Collected.{collect_comes}
use Rattle.machine.proofs.Refused.{collect_tests}
use Rattle.machine.proofs.machine.Machine.take_answer.Goals as goal

pub returns-in_err-core : goal.returns-in_err-core
returns-in_err-core g c =
    let w = view g.B.Bank.words c.args.self.now in
    let e = sym c.in_err-core.ensures.refusal in
    let r = refused_call w (collects c.args.core) c.in_err-core.field-0.0 (sym (collect_tests w c.args.core) ∙ rw e) in
    search (rules, r.0, r.1)

pub returns : goal.returns
returns g c =
    let w = view g.B.Bank.words c.args.self.now in
    let e = collect_comes w c.args.core (sym c.in_ok-core.ensures.refusal) in
    let k = c.in_ok-core.ensures.core in
    let d = c.collect_core.ensures in
    let answer = c.ok_or.ensures.value ∙ ap (λ (o : Option ℕ). ok_or o NoAnswer) (d.answer ∙ ap (λ (i : ℕ). collection (core_at w i)) k) ∙ sym (ap (λ (p : Performed). p.answer) e) in
    let after = d.after ∙ ap (λ (i : ℕ). with_core w i (after_collect (core_at w i))) k ∙ sym (ap (λ (p : Performed). p.world) e) in
    record { answer = answer; after = after; bank = d.bank }
