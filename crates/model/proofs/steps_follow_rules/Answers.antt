use Rattle.model.proofs.EveryWorld.{steps_follow_rules}
use Rattle.model.proofs.steps_follow_rules.Goals as goal

pub returns : goal.returns
returns c = steps_follow_rules
