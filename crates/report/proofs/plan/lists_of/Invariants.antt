use Rattle.std.proofs.Common.{map, take, vec_items}
use Rattle.std.specs.List.{AllZip}
use Rattle.runfile.specs.Reading.{recorded}
use Rattle.report.specs.Plan.{Makes, lists_in}
use Rattle.report.proofs.plan.lists_of.Given as goal

abbrev pub invariant-loop-record : goal.invariant-loop-record
invariant-loop-record l = AllZip Makes (vec_items l.lists) (lists_in (map recorded (take l.record-index l.records)))
