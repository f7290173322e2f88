use Rattle.std.specs.Prelude.{ℕ, cond, not, ◌&&◌, ◌||◌, List, Some, None, Option, nat_le, nat_lt}
use Rattle.cores.specs.declared.table.Table.{Table}
use Rattle.cores.specs.declared.table.Refusal.{Refusal}
use Rattle.cores.specs.declared.table.Refusal.TheVariants.{Closed, NoCore, Halted, Busy, NoWord, NoRight}
use Rattle.cores.specs.Cores.{is_idle, step_refused}
use Rattle.model.specs.World.{core_at}
use Rattle.model.specs.Refusals.{some_of, has_right}
use Rattle.machine.specs.declared.machine.starts.Named.{Named}
use Rattle.machine.specs.Sight.{tabled}

-- Why a call that names a core is refused before anything else is looked at, and why a step and a start are.

abbrev pub admission : Table → ℕ → Option Refusal
admission t k =
    cond t.running (cond (nat_le t.count k || nat_le 8 k) (Some NoCore) (cond (core_at (tabled t) k).halted (Some Halted) None)) (Some Closed)

abbrev pub else_refused : Option Refusal → Option Refusal → Option Refusal
else_refused (Some r) later = Some r
else_refused None later = later

abbrev pub step_refusal : Table → ℕ → Option Refusal
step_refusal t k = else_refused (admission t k) (step_refused (core_at (tabled t) k))

-- What the words of a start are, where there are size words, the first of them protected.
abbrev pub named_of : ℕ → ℕ → List ℕ → Named
named_of size protected is = record { missing = some_of (λ i. nat_le size i) is; protected = some_of (λ i. nat_lt i protected) is }

-- Why a start of these words is refused before a number is taken.
abbrev pub start_refusal : Table → ℕ → Named → Option Refusal
start_refusal t k n =
    else_refused (admission t k) (cond (is_idle (core_at (tabled t) k).place) (cond n.missing (Some NoWord) (cond (not (has_right (tabled t) k) && n.protected) (Some NoRight) None)) (Some Busy))
