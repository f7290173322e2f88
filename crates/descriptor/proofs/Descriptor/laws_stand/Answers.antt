use Rattle.descriptor.proofs.Laws.{laws}
use Rattle.descriptor.proofs.Descriptor.laws_stand.Goals as goal

pub returns : goal.returns
returns g c = laws
