use Rattle.std.proofs.Common.{◌≡◌, ◌≤◌, length, take, vec_items, vec_capacity}
use Rattle.machine.specs.Runs.{values_in}
use Rattle.machine.proofs.run.read_all.Given as goal

abbrev pub invariant-loop-at : goal.invariant-loop-at
invariant-loop-at g l = record {
  read : vec_items l.values ≡ take l.at (values_in (g.B.Bank.words l.bank));
  room : length (g.B.Bank.words l.bank) ≤ vec_capacity l.values;
}
