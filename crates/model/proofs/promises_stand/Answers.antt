use Rattle.model.proofs.OrderPromise.{promises_hold}
use Rattle.model.proofs.promises_stand.Goals as goal

pub returns : goal.returns
returns c = promises_hold
