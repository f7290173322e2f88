use Rattle.std.proofs.Common.{vec_items}
use Rattle.report.proofs.Planned.{lists_none, lists_more, lists_all}
use Rattle.report.proofs.plan.lists_of.Goals as goal

pub loop-record-init : goal.loop-record-init
loop-record-init c = lists_none (vec_items c.in_ok-lists.lists) c.in_ok-lists.ensures.items

pub loop-record-preserved : goal.loop-record-preserved
loop-record-preserved c =
    lists_more c.args.records.now c.loop-record.record-index c.record-item.result (vec_items c.loop-record.lists) (vec_items c.add_list.new.lists) c.loop-record-test.true c.record-item.is c.loop-record.invariant c.in_ok-add_list.ensures

pub returns : goal.returns
returns c = lists_all c.args.records.now c.loop-record.record-index (vec_items c.loop-record.lists) c.loop-record-test.false c.loop-record.invariant
