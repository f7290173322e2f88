use Rattle.std.specs.Prelude.{ℕ, false, Ok, Err, Result}
use Rattle.word.specs.declared.Mark.{Mark}
use Rattle.word.specs.declared.Word.{Word}
use Rattle.entries.specs.declared.Entry.{Entry}
use Rattle.descriptor.specs.declared.UsedUp.{UsedUp}
use Rattle.descriptor.specs.Contents.{State}
use Rattle.descriptor.specs.declared.contents.Outcome.{Outcome}
use Rattle.descriptor.specs.declared.contents.Placing.{Placing}
use Rattle.cores.specs.declared.place.Place.{Place}
use Rattle.cores.specs.declared.place.Place.TheVariants.{Idle, Finished, Look, Begin, Fetch, Make, Try, Decide, Clear, Settle}
use Rattle.cores.specs.declared.place.Clearing.{Clearing}
use Rattle.cores.specs.declared.place.Clearing.TheVariants as clearing
use Rattle.cores.specs.declared.place.Settling.{Settling}
use Rattle.cores.specs.declared.place.Settling.TheVariants as settling
use Rattle.cores.specs.declared.place.Then.{Then}
use Rattle.cores.specs.declared.place.Own.{Own}
use Rattle.cores.specs.declared.place.Work.{Work}
use Rattle.model.specs.Rules.{by_sight, through_mark, after_look, after_begin, after_try, after_decide, outcome_after, after_clear_load, after_clear_swap, resume, is_undecided}
use Rattle.cores.specs.Cores.{home}
use Rattle.machine.specs.declared.seen.Seen.{Seen}
use Rattle.machine.specs.declared.seen.Seen.TheVariants as seen

-- Where a core goes from its place, by what the access there saw. At a sight that its rule does not read, it stays.

-- a rule for a word, for an operation's state and count, for one entry, for a state, for a placing's contents, for a new mark; and where
-- the core goes when the mark is overtaken
abbrev pub on_word : Place → (Word → Place) → Seen → Place
on_word stay go (seen.Word o) = by_sight o stay go
on_word stay go seen.Nothing = stay
on_word stay go (seen.Operation r) = stay
on_word stay go (seen.Entry r) = stay
on_word stay go (seen.State r) = stay
on_word stay go (seen.Placing r) = stay
on_word stay go (seen.Made r) = stay

abbrev pub on_operation : Place → Place → (State → ℕ → Place) → Seen → Place
on_operation stay over go (seen.Operation r) = through_mark r over (λ p. go p.0 p.1)
on_operation stay over go seen.Nothing = stay
on_operation stay over go (seen.Word x) = stay
on_operation stay over go (seen.Entry r) = stay
on_operation stay over go (seen.State r) = stay
on_operation stay over go (seen.Placing r) = stay
on_operation stay over go (seen.Made r) = stay

abbrev pub on_entry : Place → Place → (Entry → Place) → Seen → Place
on_entry stay over go (seen.Entry r) = through_mark r over (λ o. by_sight o stay go)
on_entry stay over go seen.Nothing = stay
on_entry stay over go (seen.Word x) = stay
on_entry stay over go (seen.Operation r) = stay
on_entry stay over go (seen.State r) = stay
on_entry stay over go (seen.Placing r) = stay
on_entry stay over go (seen.Made r) = stay

abbrev pub on_state : Place → Place → (State → Place) → Seen → Place
on_state stay over go (seen.State r) = through_mark r over go
on_state stay over go seen.Nothing = stay
on_state stay over go (seen.Word x) = stay
on_state stay over go (seen.Operation r) = stay
on_state stay over go (seen.Entry r) = stay
on_state stay over go (seen.Placing r) = stay
on_state stay over go (seen.Made r) = stay

abbrev pub on_placing : Place → Place → (Placing → Place) → Seen → Place
on_placing stay over go (seen.Placing r) = through_mark r over go
on_placing stay over go seen.Nothing = stay
on_placing stay over go (seen.Word x) = stay
on_placing stay over go (seen.Operation r) = stay
on_placing stay over go (seen.Entry r) = stay
on_placing stay over go (seen.State r) = stay
on_placing stay over go (seen.Made r) = stay

abbrev pub made_or : Place → (Mark → Place) → Result Mark UsedUp → Place
made_or stay go (Ok m) = go m
made_or stay go (Err u) = stay

abbrev pub on_made : Place → (Mark → Place) → Seen → Place
on_made stay go (seen.Made r) = made_or stay go r
on_made stay go seen.Nothing = stay
on_made stay go (seen.Word x) = stay
on_made stay go (seen.Operation r) = stay
on_made stay go (seen.Entry r) = stay
on_made stay go (seen.State r) = stay
on_made stay go (seen.Placing r) = stay

-- Clear and Settle are three steps each.
abbrev pub clear_next : Work → Outcome → Clearing → Own → Seen → Place
clear_next t o clearing.Read mine s = on_entry (Clear t o clearing.Read) (home mine) (λ e. Clear t o (clearing.Load e)) s
clear_next t o (clearing.Load e) mine s = on_word (Clear t o (clearing.Load e)) (after_clear_load t o e) s
clear_next t o (clearing.Swap e) mine s = on_word (Clear t o (clearing.Swap e)) (λ x. after_clear_swap t o mine) s

abbrev pub settle_next : Mark → Settling → Then → Seen → Place
settle_next m settling.Read k s = on_placing (Settle m settling.Read k) (resume k) (λ p. Settle m (settling.State p) k) s
settle_next m (settling.State p) k s =
    on_state (Settle m (settling.State p) k) (Settle m (settling.Swap p false) k) (λ x. Settle m (settling.Swap p (is_undecided x)) k) s
settle_next m (settling.Swap p u) k s = on_word (Settle m (settling.Swap p u) k) (λ x. resume k) s

abbrev pub next_place : Place → Own → Seen → Place
next_place Idle mine s = Idle
next_place (Finished v) mine s = Finished v
next_place (Look i) mine s = on_word (Look i) (after_look i) s
next_place (Begin m) mine s = on_operation (Begin m) (home mine) (λ x n. after_begin m n x) s
next_place (Fetch t) mine s = on_entry (Fetch t) (home mine) (Make t) s
next_place (Make t e) mine s = on_made (Make t e) (Try t e) s
next_place (Try t e m) mine s = on_word (Try t e m) (after_try t e m) s
next_place (Decide t o) mine s = on_state (Decide t o) (home mine) (λ x. after_decide t (outcome_after x o)) s
next_place (Clear t o c) mine s = clear_next t o c mine s
next_place (Settle m c k) mine s = settle_next m c k s
