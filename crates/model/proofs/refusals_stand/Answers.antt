use Rattle.model.proofs.RefusalTable.{refusal_law}
use Rattle.model.proofs.refusals_stand.Goals as goal

pub returns : goal.returns
returns c = refusal_law
