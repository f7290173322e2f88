use Rattle.model.specs.Calls.{steps}
use Rattle.machine.proofs.Kept.{keeps}
use Rattle.machine.proofs.machine.Machine.step.Goals as goal

pub returns-clause-keeps : goal.returns-clause-keeps
returns-clause-keeps g c = keeps _ _ (steps c.args.core) c.take_step.ensures.after
