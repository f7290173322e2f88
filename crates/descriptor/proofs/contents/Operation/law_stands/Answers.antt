use Rattle.descriptor.proofs.Decided.{decided_once}
use Rattle.descriptor.proofs.contents.Operation.law_stands.Goals as goal

pub returns : goal.returns
returns c = decided_once
