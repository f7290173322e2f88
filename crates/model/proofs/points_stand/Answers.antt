use Rattle.model.proofs.Worked.{worked_points}
use Rattle.model.proofs.points_stand.Goals as goal

pub returns : goal.returns
returns c = worked_points
