use Rattle.std.proofs.Common.{◌≡◌, drop}
use Rattle.model.specs.Refusals.{first_tagged}
use Rattle.machine.proofs.machine.opening.first_tagged.Given as goal

abbrev pub invariant-loop-i : goal.invariant-loop-i
invariant-loop-i g l = first_tagged 0 (g.B.Bank.words l.bank) ≡ first_tagged l.i (drop l.i (g.B.Bank.words l.bank))
