use Rattle.std.specs.Prelude.{ℕ, Bool, true, false, cond, ◌&&◌, ◌||◌, Some, None, Ok, Err, Option, Result, nat_le, nat_lt}
use Rattle.entries.specs.declared.Entry.{Entry}
use Rattle.entries.specs.declared.list.Entries.{Entries}
use Rattle.descriptor.specs.declared.Descriptor.{Descriptor}
use Rattle.descriptor.specs.declared.Overtaken.{Overtaken}
use Rattle.descriptor.specs.declared.contents.Outcome.{Outcome}
use Rattle.descriptor.specs.declared.contents.Operation.{Operation}
use Rattle.descriptor.specs.declared.contents.Placing.{Placing}
use Rattle.descriptor.specs.Descriptors.{last_number, fresh, created, changed}
use Rattle.descriptor.specs.Contents.{undecided, with_outcome, count_of, entry_in, value_in, State}
use Rattle.cores.specs.declared.place.Place.{Place}
use Rattle.cores.specs.declared.place.Place.TheVariants.{Idle, Finished, Look, Begin, Fetch, Make, Try, Decide, Clear, Settle}
use Rattle.cores.specs.declared.place.Own.{Own}
use Rattle.cores.specs.declared.place.Own.TheVariants as own
use Rattle.cores.specs.declared.table.Core.{Core}
use Rattle.cores.specs.declared.table.Refusal.{Refusal}
use Rattle.cores.specs.declared.table.Refusal.TheVariants.{AtRest, UsedUp}

-- One core: where it stands, and its record after each thing that is done to it.

-- Home: the first place of the core's own operation.
abbrev pub home : Own → Place
home own.Nothing = Idle
home (own.Read i) = Look i
home (own.List m) = Begin m

-- where a core stands
abbrev pub is_idle : Place → Bool
is_idle Idle = true
is_idle (Finished v) = false
is_idle (Look i) = false
is_idle (Begin m) = false
is_idle (Fetch t) = false
is_idle (Make t e) = false
is_idle (Try t e m) = false
is_idle (Decide t o) = false
is_idle (Clear t o c) = false
is_idle (Settle m c k) = false

abbrev pub is_finished : Place → Bool
is_finished (Finished v) = true
is_finished Idle = false
is_finished (Look i) = false
is_finished (Begin m) = false
is_finished (Fetch t) = false
is_finished (Make t e) = false
is_finished (Try t e m) = false
is_finished (Decide t o) = false
is_finished (Clear t o c) = false
is_finished (Settle m c k) = false

abbrev pub is_making : Place → Bool
is_making (Make t e) = true
is_making Idle = false
is_making (Finished v) = false
is_making (Look i) = false
is_making (Begin m) = false
is_making (Fetch t) = false
is_making (Try t e m) = false
is_making (Decide t o) = false
is_making (Clear t o c) = false
is_making (Settle m c k) = false

-- the answer that a finished core holds
abbrev pub answer_in : Place → ℕ
answer_in (Finished v) = v
answer_in Idle = 0
answer_in (Look i) = 0
answer_in (Begin m) = 0
answer_in (Fetch t) = 0
answer_in (Make t e) = 0
answer_in (Try t e m) = 0
answer_in (Decide t o) = 0
answer_in (Clear t o c) = 0
answer_in (Settle m c k) = 0

-- a core before its first operation, where numbers begin at first: idle, not halted, nothing created
abbrev pub new_core : ℕ → Core
new_core first =
    record { place = Idle; own = own.Nothing; halted = false; operation = fresh first (undecided None); placing = fresh first (record { operation = record { core = 0; number = 0 }; word = 0; expected = 0 }) }

-- The core with another place, another descriptor of each kind.
abbrev pub with_place : Core → Place → Core
with_place c p = record { place = p; own = c.own; halted = c.halted; operation = c.operation; placing = c.placing }

-- with an operation of its own, at its home
abbrev pub with_own : Core → Own → Core
with_own c mine = record { place = home mine; own = mine; halted = c.halted; operation = c.operation; placing = c.placing }

abbrev pub with_operation : Core → Descriptor Operation → Core
with_operation c d = record { place = c.place; own = c.own; halted = c.halted; operation = d; placing = c.placing }

abbrev pub with_placing : Core → Descriptor Placing → Core
with_placing c d = record { place = c.place; own = c.own; halted = c.halted; operation = c.operation; placing = d }

-- Start: every accepted start, of a read too, creates the core's operation descriptor. Departure: a read creates a descriptor too; it has no
-- entries. The core is at the first place of its operation.
abbrev pub started : Core → Own → Option Entries → Core
started c mine l =
    record { place = home mine; own = mine; halted = c.halted; operation = created c.operation (undecided l); placing = c.placing }

-- Collect: the core is idle.
abbrev pub collected : Core → Core
collected c = record { place = Idle; own = own.Nothing; halted = c.halted; operation = c.operation; placing = c.placing }

-- Halt: the core is stopped where it stands.
abbrev pub halted : Core → Core
halted c = record { place = c.place; own = c.own; halted = true; operation = c.operation; placing = c.placing }

-- What a collect answers: nothing of a core that is not finished, and that one stays as it is.
abbrev pub collection : Core → Option ℕ
collection c = cond (is_finished c.place) (Some (answer_in c.place)) None

abbrev pub after_collect : Core → Core
after_collect c = cond (is_finished c.place) (collected c) c

-- A core that has taken its last number starts nothing, and stays as it is.
abbrev pub after_start : Core → Own → Option Entries → Core
after_start c mine l = cond (nat_lt c.operation.last last_number) (started c mine l) c

-- A decision through a mark's number: the operation is decided, unless it is already or the number is overtaken.
abbrev pub after_decision : Core → ℕ → Outcome → Core
after_decision c n o = with_operation c (changed (λ p. with_outcome p o) c.operation n)

-- What is read of an operation: its state; its state and count; one entry; what it gives a word.
abbrev pub state_read : Result Operation Overtaken → Result State Overtaken
state_read (Ok o) = Ok o.state
state_read (Err e) = Err e

abbrev pub begin_read : Result Operation Overtaken → Result (State × ℕ) Overtaken
begin_read (Ok o) = Ok (o.state, count_of o.list)
begin_read (Err e) = Err e

abbrev pub entry_read : ℕ → Result Operation Overtaken → Result (Option Entry) Overtaken
entry_read i (Ok o) = Ok (entry_in o.list i)
entry_read i (Err e) = Err e

abbrev pub value_read : ℕ → Result Operation Overtaken → Result ℕ Overtaken
value_read i (Ok o) = Ok (value_in o i)
value_read i (Err e) = Err e

-- Why a step of a core is refused, if it is.
abbrev pub step_refused : Core → Option Refusal
step_refused c =
    cond (is_idle c.place || is_finished c.place) (Some AtRest) (cond (is_making c.place && nat_le last_number c.placing.last) (Some UsedUp) None)
