use Rattle.std.proofs.Common.{◌≡◌}
use Rattle.machine.specs.View.{view}
use Rattle.machine.proofs.Closed.{plain_to}
use Rattle.machine.proofs.machine.Machine.shut.Given as goal

abbrev pub invariant-loop-i : goal.invariant-loop-i
invariant-loop-i g l =
    (l.self.table ≡ l.initial.self.table) × (g.B.Bank.words l.self.bank ≡ plain_to (view g.B.Bank.words l.initial.self) l.i)
