use Rattle.std.proofs.Common.{◌≤◌, length, vec_items, vec_capacity}
use Rattle.machine.specs.View.{view}
use Rattle.machine.proofs.Asked.{AskedTo}
use Rattle.machine.proofs.run.ask_all.Given as goal

abbrev pub invariant-loop-request : goal.invariant-loop-request
invariant-loop-request g l = record {
  asked : AskedTo (view g.B.Bank.words l.initial.machine) (view g.B.Bank.words l.machine) l.requests (vec_items l.answers) l.request-index;
  room : length l.requests ≤ vec_capacity l.answers;
}
