use Rattle.std.proofs.Common.{◌∙◌}
use Rattle.runfile.proofs.Calls.{calls_again, calls_end, calls_broken}
use Rattle.runfile.proofs.Whole.{handed_on}
use Rattle.runfile.proofs.reader.calls.Goals as goal

pub returns-in_err-next : goal.returns-in_err-next
returns-in_err-next c =
    let s = c.in-Some.ensures.steps in
    handed_on _ _ _ _ c.from_residual.ensures.1 (calls_broken _ _ _ _ _ _ _ _ _ _ _ c.loop-i.invariant.1 (rw c.loop-i.invariant.0 at s.0.1) s.1 c.in_err-next.ensures)

pub loop-i-preserved : goal.loop-i-preserved
loop-i-preserved c =
    let s = c.in-Some.ensures.steps in (
      s.0.0 ∙ c.loop-i.invariant.0,
      calls_again _ _ _ _ _ _ _ _ _ _ _ _ _ c.loop-i.invariant.1 (rw c.loop-i.invariant.0 at s.0.1) s.2 c.in_ok-next.ensures c.in_ok-push.ensures.items c.records_used-left.ensures,
    )

pub returns : goal.returns
returns c = calls_end _ _ _ _ _ _ _ c.loop-i.invariant.1 c.in-None.ensures.steps.0.1.0
