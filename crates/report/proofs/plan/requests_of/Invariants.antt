use Rattle.std.proofs.Common.{map, vec_items}
use Rattle.std.specs.List.{AllZip}
use Rattle.runfile.specs.Reading.{recorded}
use Rattle.report.specs.Plan.{Makes, lists_in}
use Rattle.report.proofs.Planned.{AsksFrom}
use Rattle.report.proofs.plan.requests_of.Given as goal

abbrev pub invariant-loop-call : goal.invariant-loop-call
invariant-loop-call l = AllZip Makes l.lists (lists_in (map recorded l.records)) → AsksFrom l.left (vec_items l.requests) (map recorded l.records) l.calls l.call-index
