use Rattle.model.proofs.RuleComplete.{relation_law}
use Rattle.model.proofs.relation_stands.Goals as goal

pub returns : goal.returns
returns c = relation_law
