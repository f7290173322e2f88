use Rattle.model.proofs.PromiseLaws.{promise_law}
use Rattle.model.proofs.promises_are_sharp.Goals as goal

pub returns : goal.returns
returns c = promise_law
