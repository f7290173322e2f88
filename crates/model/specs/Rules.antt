use Rattle.std.specs.Prelude.{ℕ, ◌+◌, Bool, true, false, cond, ◌&&◌, Some, None, Ok, Err, Option, Result, ◌==◌, nat_lt}
use Rattle.word.specs.declared.Mark.{Mark}
use Rattle.word.specs.declared.Word.{Word}
use Rattle.word.specs.declared.Word.TheVariants as word
use Rattle.entries.specs.declared.Entry.{Entry}
use Rattle.descriptor.specs.declared.Overtaken.{Overtaken}
use Rattle.descriptor.specs.Contents.{State}
use Rattle.descriptor.specs.declared.contents.Outcome.{Outcome}
use Rattle.descriptor.specs.declared.contents.Outcome.TheVariants as outcome
use Rattle.cores.specs.declared.place.Work.{Work}
use Rattle.cores.specs.declared.place.Then.{Then}
use Rattle.cores.specs.declared.place.Then.TheVariants as then
use Rattle.cores.specs.declared.place.Clearing.TheVariants as clearing
use Rattle.cores.specs.declared.place.Settling.TheVariants as settling
use Rattle.cores.specs.declared.place.Place.{Place}
use Rattle.cores.specs.declared.place.Place.TheVariants.{Idle, Finished, Look, Begin, Fetch, Try, Decide, Clear, Settle}
use Rattle.cores.specs.declared.place.Own.{Own}
use Rattle.cores.specs.declared.place.Own.TheVariants as own

-- The step rules: where a core goes from its place, by what the one access of the step saw there. T is the operation being worked on, M the
-- core's own. They are those of k-CAS over DCSS with weak descriptors (Arbel-Raviv and Brown, DISC 2017), with five departures, each
-- marked where it stands; the fifth, that a read creates a descriptor, stands in `Cores.antt`. What no run brings about (a word or an entry that is
-- not there; in Look and Try, a foreign word) leaves the core in its place.

abbrev pub same_mark : Mark → Mark → Bool
same_mark a b = a.core == b.core && a.number == b.number

-- where a core goes by something that is there; it stays where there is nothing
abbrev pub by_sight : {X : Type 0} → Option X → Place → (X → Place) → Place
by_sight (Some x) stay go = go x
by_sight None stay go = stay

-- where a core goes by what it reads through a mark, and where it goes instead when the mark is overtaken
abbrev pub through_mark : {X : Type 0} → Result X Overtaken → Place → (X → Place) → Place
through_mark (Ok x) over go = go x
through_mark (Err e) over go = over

-- the work on the first entry of an operation, and on the entry after this one
abbrev pub first_entry : Mark → ℕ → Work
first_entry m n = record { operation = m; index = 0; count = n }

abbrev pub entry_after : Work → Work
entry_after t = record { operation = t.operation; index = t.index + 1; count = t.count }

abbrev pub has_more : Work → Bool
has_more t = nat_lt (t.index + 1) t.count

-- Look, the first place of a read: load the word. Plain: finish. Placing mark: settle it, then look. Operation mark T: begin T.
-- Departure: a helper never nests. A core that helps keeps no place to come back to, and goes home after.
abbrev pub after_look : ℕ → Word → Place
after_look i (word.Plain v) = Finished v
after_look i (word.Placing m) = Settle m settling.Read (then.Look i)
after_look i (word.Operation m) = Begin m
after_look i (word.Foreign n) = Look i

-- Begin T, the first place of a k-CAS with T = M: read T's state and count. Undecided: fetch entry 1. Otherwise: clear entry 1.
-- Departure: one access reads several fields.
abbrev pub after_begin : Mark → ℕ → State → Place
after_begin m n None = Fetch (first_entry m n)
after_begin m n (Some o) = Clear (first_entry m n) o clearing.Read

-- Next costs no step: fetch the next entry; after the last one, decide that T succeeded.
abbrev pub next_entry : Work → Place
next_entry t = cond (has_more t) (Fetch (entry_after t)) (Decide t outcome.Succeeded)

-- Try: swap the entry's word from the expected value to the new placing mark m. It saw the expected value: settle m, then Next.
-- Another placing mark: settle that and try again. T itself: Next. Another operation mark: begin that. Another plain value: decide that
-- T failed at this entry. Departure: a failed state names an entry.
abbrev pub after_try : Work → Entry → Mark → Word → Place
after_try t e m (word.Plain v) = cond (v == e.expected) (Settle m settling.Read (then.Next t)) (Decide t (outcome.Failed t.index))
after_try t e m (word.Placing n) = Settle n settling.Read (then.Try t e m)
after_try t e m (word.Operation u) = cond (same_mark u t.operation) (next_entry t) (Begin u)
after_try t e m (word.Foreign n) = Try t e m

-- Decide: change T's state from undecided to the outcome. Then clear entry 1 with the state that T now has.
abbrev pub after_decide : Work → Outcome → Place
after_decide t o = Clear (first_entry t.operation t.count) o clearing.Read

-- the outcome that an operation has after a decision: the first one stays
abbrev pub outcome_after : State → Outcome → Outcome
outcome_after None o = o
outcome_after (Some x) o = x

-- Clear, second step: load the entry's word, and settle any placing mark seen.
-- Departure: a clearing core first settles a placing mark.
abbrev pub after_clear_load : Work → Outcome → Entry → Word → Place
after_clear_load t o e (word.Plain v) = Clear t o (clearing.Swap e)
after_clear_load t o e (word.Placing m) = Settle m settling.Read (then.Clear t o e)
after_clear_load t o e (word.Operation m) = Clear t o (clearing.Swap e)
after_clear_load t o e (word.Foreign n) = Clear t o (clearing.Swap e)

-- an outcome as collect answers it: 0 for success, i from 1 for failed at entry i
abbrev pub answer_of : Outcome → ℕ
answer_of outcome.Succeeded = 0
answer_of (outcome.Failed i) = i + 1

-- After the last entry the core finishes if T = M, and otherwise goes home.
abbrev pub after_last : Mark → Outcome → Own → Place
after_last m o own.Nothing = Idle
after_last m o (own.Read i) = Look i
after_last m o (own.List mine) = cond (same_mark mine m) (Finished (answer_of o)) (Begin mine)

-- Clear, third step: the word is swapped from T to the new value if T succeeded, else to the expected value.
abbrev pub after_clear_swap : Work → Outcome → Own → Place
after_clear_swap t o mine = cond (has_more t) (Clear (entry_after t) o clearing.Read) (after_last t.operation o mine)

-- where a core goes on after a Settle
abbrev pub resume : Then → Place
resume (then.Look i) = Look i
resume (then.Next t) = next_entry t
resume (then.Try t e m) = Try t e m
resume (then.Clear t o e) = Clear t o (clearing.Swap e)

-- whether a state is undecided
abbrev pub is_undecided : State → Bool
is_undecided None = true
is_undecided (Some o) = false
