use Rattle.std.proofs.Common.{ℕ, sym, ap, ◌∙◌, rules}
use Rattle.cores.specs.Cores.{halted}
use Rattle.model.specs.World.{core_at, with_core}
use Rattle.model.specs.Calls.{halts}
use Rattle.machine.specs.View.{view}
use Rattle.machine.proofs.Called.{refused_call, granted_call}
use Rattle.machine.proofs.Refused.{halt_tests}
use Rattle.machine.proofs.machine.Machine.take_halt.Goals as goal

pub returns-in_err-core : goal.returns-in_err-core
returns-in_err-core g c =
    let w = view g.B.Bank.words c.args.self.now in
    let r = refused_call w (halts c.args.core) c.in_err-core.field-0.0 (sym (halt_tests w c.args.core) ∙ sym c.in_err-core.ensures.refusal) in
    search (rules, r.0, r.1)

pub returns : goal.returns
returns g c =
    let w = view g.B.Bank.words c.args.self.now in
    let r = granted_call w (halts c.args.core) (sym (halt_tests w c.args.core) ∙ sym c.in_ok-core.ensures.refusal) in
    let after = c.halt_core.ensures.after ∙ ap (λ (k : ℕ). with_core w k (halted (core_at w k))) c.in_ok-core.ensures.core ∙ r.1 in
    record { answer = r.0; after = after; bank = c.halt_core.ensures.bank }
