use Rattle.std.specs.Prelude.{ℕ, List}
use Rattle.model.specs.World.{World}
use Rattle.machine.specs.declared.machine.Machine.{Machine}

-- A machine as a world: its bank's words and its table.
abbrev pub view : {B : Type 0} → (B → List ℕ) → Machine B → World
view words m = record { words = words m.bank; table = m.table }
