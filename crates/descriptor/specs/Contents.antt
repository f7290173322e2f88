use Rattle.std.specs.Prelude.{◌≡◌, ℕ, cond, List, [], ◌∷◌, length, Some, None, Option, ◌==◌, ◌≢◌}
use Rattle.entries.specs.declared.Entry.{Entry}
use Rattle.entries.specs.declared.list.Entries.{Entries}
use Rattle.entries.specs.Listed.{listed, entry_of}
use Rattle.descriptor.specs.declared.contents.Operation.{Operation}
use Rattle.descriptor.specs.declared.contents.Outcome.{Outcome}
use Rattle.descriptor.specs.declared.contents.Outcome.TheVariants.{Succeeded, Failed}

-- How far an operation is: what it is decided to, and nothing while it is undecided.
abbrev pub State : Type 0
State = Option Outcome

-- an operation that is not yet decided
abbrev pub undecided : Option Entries → Operation
undecided l = record { list = l; state = None }

-- the number of entries of an operation with this list, 0 for a read
abbrev pub count_of : Option Entries → ℕ
count_of (Some l) = length (listed l)
count_of None = 0

-- the entry at i of an operation with this list, if it has that many
abbrev pub entry_in : Option Entries → ℕ → Option Entry
entry_in (Some l) i = entry_of l i
entry_in None i = None

-- the entries of an operation with this list: a read has none
abbrev pub entries_of : Option Entries → List Entry
entries_of (Some l) = listed l
entries_of None = []

-- what an entry gives its word in this state: the new value where the operation succeeded, and otherwise the expected one
abbrev pub value_by : State → Entry → ℕ
value_by None e = e.expected
value_by (Some Succeeded) e = e.new
value_by (Some (Failed i)) e = e.expected

-- what the entry that names word i gives it; 0 where none does
unfoldable pub value_among : State → List Entry → ℕ → ℕ
value_among s [] i = 0
value_among s (e ∷ es) i = cond (e.word == i) (value_by s e) (value_among s es i)

-- what an operation gives word i
abbrev pub value_in : Operation → ℕ → ℕ
value_in o i = value_among o.state (entries_of o.list) i

-- the state after a decision: only one that is undecided takes the outcome
abbrev pub decided : State → Outcome → State
decided None o = Some o
decided (Some x) o = Some x

-- an operation after a decision
abbrev pub with_outcome : Operation → Outcome → Operation
with_outcome p o = record { list = p.list; state = decided p.state o }

-- the state after these decisions, the first of the list first
unfoldable pub after_all : State → List Outcome → State
after_all s [] = s
after_all s (o ∷ os) = after_all (decided s o) os

-- A state leaves undecided once: the first outcome stays, and a decided state never changes.
pub record DecidedOnce : Type 0 where
  pub first_stays : (o : Outcome) (os : List Outcome) → after_all None (o ∷ os) ≡ Some o
  pub decided_stays : (s : State) (os : List Outcome) → (s ≢ None) → after_all s os ≡ s
