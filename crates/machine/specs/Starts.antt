use Rattle.std.specs.Prelude.{ℕ, ◌+◌, Some, None}
use Rattle.cores.specs.declared.place.Own.TheVariants.{Read, List}
use Rattle.cores.specs.Cores.{after_start}
use Rattle.model.specs.World.{World, core_at, with_core}
use Rattle.model.specs.Calls.{Call, starts, reads}
use Rattle.machine.specs.declared.machine.starts.Task.{Task}
use Rattle.machine.specs.declared.machine.starts.Task.TheVariants as task

-- the call that starts a task on core k
abbrev pub call_for : ℕ → Task → Call
call_for k (task.List l) = starts k l.now
call_for k (task.Read i) = reads k i

-- the world where core k has begun a task, if a number is left for it
abbrev pub begun : World → ℕ → Task → World
begun w k (task.List l) =
    with_core w k (after_start (core_at w k) (List (record { core = k; number = (core_at w k).operation.last + 1 })) (Some l.now))
begun w k (task.Read i) = with_core w k (after_start (core_at w k) (Read i) None)
