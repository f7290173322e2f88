use Rattle.std.proofs.Common.{◌≡◌, true}
use Rattle.entries.specs.Lists.{each, may_stand}
use Rattle.entries.proofs.list.methods.is_lawful.Given as goal

abbrev pub invariant-loop-i : goal.invariant-loop-i
invariant-loop-i l = each (may_stand l.entries) l.i ≡ true
