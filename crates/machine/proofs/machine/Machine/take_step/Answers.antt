use Rattle.std.proofs.Common.{ℕ, sym, ap, ◌∙◌, arith, rules}
use Rattle.cores.specs.declared.table.Core.{Core}
use Rattle.model.specs.Calls.{steps}
use Rattle.model.specs.Perform.{perform}
use Rattle.machine.specs.Admission.{step_refusal}
use Rattle.machine.specs.View.{view}
use Rattle.machine.proofs.Stepped.{step_comes, step_refused_so}
use Rattle.machine.proofs.machine.Machine.take_step.Goals as goal

pub returns-in_err-core : goal.returns-in_err-core
returns-in_err-core g c =
    let e = step_refused_so (view g.B.Bank.words c.args.self.now) c.args.core c.in_err-core.field-0.0 (sym c.in_err-core.ensures.refusal) in
    rw e (search rules)

pub returns : goal.returns
returns g c =
    let w = view g.B.Bank.words c.args.self.now in
    let k = c.in_ok-core.ensures.core in
    let r = step_comes w (view g.B.Bank.words c.access-seen.new.self) (view g.B.Bank.words c.arrive.new.self) c.in_ok-core.core.number _ _ _ _ _
    (ap (step_refusal c.args.self.now.table) k ∙ sym c.in_ok-core.ensures.refusal) (ap (λ (x : Core). x.place) c.core.ensures) (ap (λ (x : Core). x.own) c.core.ensures) c.access-seen.ensures.answer c.access-seen.ensures.after c.next.ensures c.arrive.ensures.after c.arrive.ensures.answer in
    record { answer = r.0 ∙ ap (λ (i : ℕ). (perform w (steps i)).answer) k; after = r.1 ∙ ap (λ (i : ℕ). (perform w (steps i)).world) k; refused = λ e. absurd (grind arith) }
