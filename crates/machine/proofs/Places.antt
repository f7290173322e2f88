use Rattle.std.proofs.Common.{◌≡◌, ℕ, Ok, Err, Result, refl}
use Rattle.word.specs.declared.Mark.{Mark}
use Rattle.entries.specs.declared.Entry.{Entry}
use Rattle.descriptor.specs.declared.Overtaken.{Overtaken}
use Rattle.descriptor.specs.declared.UsedUp.{UsedUp}
use Rattle.descriptor.specs.declared.contents.Operation.{Operation}
use Rattle.descriptor.specs.declared.contents.Outcome.{Outcome}
use Rattle.descriptor.specs.Descriptors.{creation}
use Rattle.descriptor.specs.Contents.{count_of, entry_in, State}
use Rattle.cores.specs.declared.place.Place.{Place}
use Rattle.cores.specs.declared.place.Place.TheVariants.{Idle, Finished, Look, Begin, Fetch, Make, Try, Decide, Clear, Settle}
use Rattle.cores.specs.declared.place.Clearing.{Clearing}
use Rattle.cores.specs.declared.place.Clearing.TheVariants as clearing
use Rattle.cores.specs.declared.place.Settling.{Settling}
use Rattle.cores.specs.declared.place.Settling.TheVariants as settling
use Rattle.cores.specs.declared.place.Then.{Then}
use Rattle.cores.specs.declared.place.Own.{Own}
use Rattle.cores.specs.declared.place.Work.{Work}
use Rattle.cores.specs.Cores.{home, begin_read, entry_read, state_read}
use Rattle.model.specs.World.{World, core_at, operation_at}
use Rattle.model.specs.Rules.{by_sight, through_mark}
use Rattle.model.specs.Step.{step_place, clear_step, settle_step, after_make}
use Rattle.machine.specs.Next.{made_or, next_place, clear_next, settle_next}
use Rattle.machine.specs.Sight.{mark_made, sight, clear_sight, settle_sight}

-- The place that a step leads to is the one after what its access sees.

by_operation : (r : Result Operation Overtaken) (over : Place) (go : State → ℕ → Place) → through_mark r over (λ o. go o.state (count_of o.list)) ≡ through_mark (begin_read r) over (λ p. go p.0 p.1)
by_operation (Ok o) over go = refl
by_operation (Err e) over go = refl

by_entry : (r : Result Operation Overtaken) (i : ℕ) (stay over : Place) (go : Entry → Place) → through_mark r over (λ o. by_sight (entry_in o.list i) stay go) ≡ through_mark (entry_read i r) over (λ o. by_sight o stay go)
by_entry (Ok o) i stay over go = refl
by_entry (Err e) i stay over go = refl

by_state : (r : Result Operation Overtaken) (over : Place) (go : State → Place) → through_mark r over (λ o. go o.state) ≡ through_mark (state_read r) over go
by_state (Ok o) over go = refl
by_state (Err e) over go = refl

by_make : (k : ℕ) (t : Work) (e : Entry) (r : Result ℕ UsedUp) → after_make k t e r ≡ made_or (Make t e) (Try t e) (mark_made k r)
by_make k t e (Ok n) = refl
by_make k t e (Err u) = refl

by_clear : (w : World) (t : Work) (o : Outcome) (mine : Own) (c : Clearing) → clear_step w t o mine c ≡ clear_next t o c mine (clear_sight w t c)
by_clear w t o mine clearing.Read = by_entry (operation_at w t.operation) t.index (Clear t o clearing.Read) (home mine) _
by_clear w t o mine (clearing.Load e) = refl
by_clear w t o mine (clearing.Swap e) = refl

by_settle : (w : World) (m : Mark) (k : Then) (c : Settling) → settle_step w m k c ≡ settle_next m c k (settle_sight w m c)
by_settle w m k settling.Read = refl
by_settle w m k (settling.State p) = by_state (operation_at w p.operation) _ _
by_settle w m k (settling.Swap p u) = refl

pub next_is_step : (w : World) (k : ℕ) (mine : Own) (p : Place) → step_place w k mine p ≡ next_place p mine (sight w k p)
next_is_step w k mine Idle = refl
next_is_step w k mine (Finished v) = refl
next_is_step w k mine (Look i) = refl
next_is_step w k mine (Begin m) = by_operation (operation_at w m) (home mine) _
next_is_step w k mine (Fetch t) = by_entry (operation_at w t.operation) t.index (Fetch t) (home mine) _
next_is_step w k mine (Make t e) = by_make k t e (creation (core_at w k).placing)
next_is_step w k mine (Try t e m) = refl
next_is_step w k mine (Decide t o) = by_state (operation_at w t.operation) (home mine) _
next_is_step w k mine (Clear t o c) = by_clear w t o mine c
next_is_step w k mine (Settle m c j) = by_settle w m j c
