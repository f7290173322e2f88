use Rattle.std.proofs.Common.{refl}
use Rattle.entries.specs.Lists.{each}
use Rattle.entries.proofs.list.Entries.new.Goals as goal

pub invariant_of-result : goal.invariant_of-result
unfolding each
invariant_of-result c = record { fit = refl }
