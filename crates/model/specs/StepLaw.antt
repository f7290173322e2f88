use Rattle.std.specs.Prelude.{◌≡◌, ℕ, None}
use Rattle.model.specs.World.{World}
use Rattle.model.specs.Calls.{steps}
use Rattle.model.specs.Refusals.{refusal_of}
use Rattle.model.specs.Perform.{perform}
use Rattle.model.specs.Histories.{History, world_at}
use Rattle.model.specs.Relation.{Rule}

-- In every history, every granted step is what a rule says, and no rule says another.
pub record FollowsRules (h : History) (t k : ℕ) : Type 0 where
  pub by_a_rule : Rule (world_at h t) k (perform (world_at h t) (steps k)).world
  pub by_no_other : (w' : World) → Rule (world_at h t) k w' → (perform (world_at h t) (steps k)).world ≡ w'

abbrev pub StepsFollowRules : Type 0
StepsFollowRules = (h : History) (t k : ℕ) → refusal_of (world_at h t) (steps k) ≡ None → FollowsRules h t k
