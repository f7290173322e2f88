use Rattle.std.proofs.Common.{ℕ, Option, sym, refl, ap, ◌∙◌, rules}
use Rattle.descriptor.specs.Descriptors.{creation}
use Rattle.cores.specs.declared.table.Refusal.{Refusal}
use Rattle.model.specs.World.{core_at}
use Rattle.model.specs.Calls.{words_of}
use Rattle.model.specs.Perform.{Performed}
use Rattle.machine.specs.Admission.{else_refused}
use Rattle.machine.specs.Starts.{call_for, begun}
use Rattle.machine.specs.View.{view}
use Rattle.machine.proofs.Called.{refused_call}
use Rattle.machine.proofs.Refused.{start_tests, number_refusal}
use Rattle.machine.proofs.Started.{or_used_up, start_comes, tested}
use Rattle.machine.proofs.machine.Machine.take_start.Goals as goal

pub returns-in_err-core : goal.returns-in_err-core
returns-in_err-core g c =
    let w = view g.B.Bank.words c.args.self.now in
    let e = tested c.args.self.now.table c.args.core _ _ _ (words_of (call_for 0 c.args.task)) _ _ _ c.size.ensures c.of-named.ensures refl (sym c.in_err-core.ensures.refusal) in
    let r = refused_call w (call_for c.args.core c.args.task) c.in_err-core.field-0.0 (sym (start_tests w c.args.core c.args.task) ∙ ap (λ (q : Option Refusal). else_refused q (number_refusal w c.args.core)) e) in
    search (rules, r.0, r.1)

pub returns-in_err-start_on : goal.returns-in_err-start_on
returns-in_err-start_on g c =
    let w = view g.B.Bank.words c.args.self.now in
    let e = start_comes w c.args.core c.args.task (tested c.args.self.now.table c.args.core _ _ _ (words_of (call_for 0 c.args.task)) _ _ _ c.size.ensures c.of-named.ensures refl (sym c.in_ok-core.ensures.refusal)) in
    let k = c.in_ok-core.ensures.core in
    let d = c.in_err-start_on.ensures in
    let answer = ap or_used_up (d.answer ∙ ap (λ (i : ℕ). creation (core_at w i).operation) k) ∙ sym (ap (λ (p : Performed). p.answer) e) in
    let after = d.after ∙ ap (λ (i : ℕ). begun w i c.args.task) k ∙ sym (ap (λ (p : Performed). p.world) e) in
    search (rules, answer, after)

pub returns : goal.returns
returns g c =
    let w = view g.B.Bank.words c.args.self.now in
    let e = start_comes w c.args.core c.args.task (tested c.args.self.now.table c.args.core _ _ _ (words_of (call_for 0 c.args.task)) _ _ _ c.size.ensures c.of-named.ensures refl (sym c.in_ok-core.ensures.refusal)) in
    let k = c.in_ok-core.ensures.core in
    let d = c.in_ok-start_on.ensures in
    let answer = ap or_used_up (d.answer ∙ ap (λ (i : ℕ). creation (core_at w i).operation) k) ∙ sym (ap (λ (p : Performed). p.answer) e) in
    record { answer = answer; after = d.after ∙ ap (λ (i : ℕ). begun w i c.args.task) k ∙ sym (ap (λ (p : Performed). p.world) e); bank = d.bank }
