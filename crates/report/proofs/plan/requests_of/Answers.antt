use Rattle.std.proofs.Common.{map, vec_items, sym, ap, subst}
use Rattle.std.specs.List.{AllZip}
use Rattle.runfile.specs.Reading.{recorded}
use Rattle.report.specs.Plan.{Makes, lists_in}
use Rattle.report.proofs.Planned.{asks_none, asks_more, asks_all}
use Rattle.report.proofs.plan.requests_of.Goals as goal

pub loop-call-init : goal.loop-call-init
loop-call-init c p =
    asks_none (record { records = c.iter.result; lists = c.iter-2.result }) (vec_items c.in_ok-requests.requests) (map recorded c.args.records.now) c.args.calls.now c.in_ok-requests.ensures.items
    (ap (map recorded) c.iter.ensures.rest, subst (λ x. AllZip Makes x (lists_in (map recorded c.args.records.now))) (sym c.iter-2.ensures.rest) p)

pub loop-call-preserved : goal.loop-call-preserved
loop-call-preserved c p =
    asks_more c.loop-call.left c.request.new.self (vec_items c.loop-call.requests) (vec_items c.push.new.self) (map recorded c.args.records.now) c.args.calls.now c.loop-call.call-index _ c.request.result (c.loop-call.invariant p) c.loop-call-test.true c.request.ensures c.in_ok-push.ensures.items

pub returns : goal.returns
returns c p = asks_all c.loop-call.left (vec_items c.loop-call.requests) (map recorded c.args.records.now) c.args.calls.now c.loop-call.call-index (c.loop-call.invariant p) c.loop-call-test.false
