use Rattle.std.specs.Prelude.{◌≡◌, [], None}
use Rattle.cores.specs.declared.table.Setting.{Setting}
use Rattle.model.specs.World.{World}
use Rattle.model.specs.Calls.{Call, opens}
use Rattle.model.specs.Refusals.{refusal_of}
use Rattle.model.specs.Histories.{History, world_of, then_call}
use Rattle.model.specs.Promises.{Promises}

-- A call that leads from the world w to v, in any history that has come to w: with this call added it comes to v, and the promises hold of it.
abbrev pub Keeps : World → Call → World → Type 0
Keeps w c v = (h : History) → world_of h ≡ w → (world_of (then_call h c) ≡ v) × Promises (then_call h c)

-- A granted opening that leads from the world w to v begins a history: on the words of w, with no call yet, it has come to v, and the promises
-- hold of it.
abbrev pub Begins : World → Setting → World → Type 0
Begins w s v =
    refusal_of w (opens s) ≡ None → (h : History) × (h.words ≡ w.words) × (h.setting ≡ s) × (h.calls ≡ []) × (world_of h ≡ v) × Promises h
