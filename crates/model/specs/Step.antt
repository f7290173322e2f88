use Rattle.std.specs.Prelude.{ℕ, Bool, true, false, cond, Ok, Err, Result, nat_lt}
use Rattle.word.specs.declared.Mark.{Mark}
use Rattle.word.specs.declared.Word.{Word}
use Rattle.word.specs.declared.Word.TheVariants as word
use Rattle.word.specs.Word.{raw_of}
use Rattle.bank.specs.Bank.{swapped}
use Rattle.entries.specs.declared.Entry.{Entry}
use Rattle.descriptor.specs.declared.UsedUp.{UsedUp}
use Rattle.descriptor.specs.declared.contents.Outcome.{Outcome}
use Rattle.descriptor.specs.declared.contents.Outcome.TheVariants as outcome
use Rattle.descriptor.specs.declared.contents.Placing.{Placing}
use Rattle.descriptor.specs.Descriptors.{creation, created, changed}
use Rattle.descriptor.specs.Contents.{count_of, entry_in, with_outcome}
use Rattle.cores.specs.declared.place.Work.{Work}
use Rattle.cores.specs.declared.place.Then.{Then}
use Rattle.cores.specs.declared.place.Clearing.{Clearing}
use Rattle.cores.specs.declared.place.Clearing.TheVariants as clearing
use Rattle.cores.specs.declared.place.Settling.{Settling}
use Rattle.cores.specs.declared.place.Settling.TheVariants as settling
use Rattle.cores.specs.declared.place.Place.{Place}
use Rattle.cores.specs.declared.place.Place.TheVariants.{Idle, Finished, Look, Begin, Fetch, Make, Try, Decide, Clear, Settle}
use Rattle.cores.specs.declared.place.Own.{Own}
use Rattle.model.specs.World.{World, core_at, word_at, operation_at, placing_at, with_words, with_core}
use Rattle.cores.specs.Cores.{with_place, with_operation, with_placing, home}
use Rattle.model.specs.Rules.{by_sight, through_mark, after_look, after_begin, after_try, after_decide, outcome_after, after_clear_load, after_clear_swap, resume, is_undecided}

-- A granted step: the core at its place makes one access, which may change one thing in the world, and goes to its next place.

-- Where the core goes. "Overtaken" about T in Begin, Fetch, Decide or Clear sends it home.

-- Clear is three steps: read the entry; load its word and settle any placing mark seen; swap the word.
abbrev pub clear_step : World → Work → Outcome → Own → Clearing → Place
clear_step w t o mine clearing.Read =
    through_mark (operation_at w t.operation) (home mine) (λ p. by_sight (entry_in p.list t.index) (Clear t o clearing.Read) (λ e. Clear t o (clearing.Load e)))
clear_step w t o mine (clearing.Load e) = by_sight (word_at w e.word) (Clear t o (clearing.Load e)) (after_clear_load t o e)
clear_step w t o mine (clearing.Swap e) = by_sight (word_at w e.word) (Clear t o (clearing.Swap e)) (λ seen. after_clear_swap t o mine)

-- Settle m is three steps: read m's contents, where overtaken ends it; read the state of the operation that they name, where overtaken
-- counts as succeeded; swap the word.
abbrev pub settle_step : World → Mark → Then → Settling → Place
settle_step w m k settling.Read = through_mark (placing_at w m) (resume k) (λ p. Settle m (settling.State p) k)
settle_step w m k (settling.State p) =
    through_mark (operation_at w p.operation) (Settle m (settling.Swap p false) k) (λ o. Settle m (settling.Swap p (is_undecided o.state)) k)
settle_step w m k (settling.Swap p undecided) = by_sight (word_at w p.word) (Settle m (settling.Swap p undecided) k) (λ seen. resume k)

-- Make: the core's own placing descriptor is created anew. Then Try with the new mark.
abbrev pub after_make : ℕ → Work → Entry → Result ℕ UsedUp → Place
after_make k t e (Ok n) = Try t e (record { core = k; number = n })
after_make k t e (Err u) = Make t e

-- the place that a granted step of core k leads to
abbrev pub step_place : World → ℕ → Own → Place → Place
step_place w k mine Idle = Idle
step_place w k mine (Finished v) = Finished v
step_place w k mine (Look i) = by_sight (word_at w i) (Look i) (after_look i)
step_place w k mine (Begin m) = through_mark (operation_at w m) (home mine) (λ o. after_begin m (count_of o.list) o.state)
step_place w k mine (Fetch t) =
    through_mark (operation_at w t.operation) (home mine) (λ o. by_sight (entry_in o.list t.index) (Fetch t) (Make t))
step_place w k mine (Make t e) = after_make k t e (creation (core_at w k).placing)
step_place w k mine (Try t e m) = by_sight (word_at w e.word) (Try t e m) (after_try t e m)
step_place w k mine (Decide t o) = through_mark (operation_at w t.operation) (home mine) (λ p. after_decide t (outcome_after p.state o))
step_place w k mine (Clear t o c) = clear_step w t o mine c
step_place w k mine (Settle m c k') = settle_step w m k' c

-- What the access changes.

pub data Change : Type 0 where
  nothing : Change
  -- word i becomes the second word where it says the first
  swaps : ℕ → Word → Word → Change
  -- the operation of this mark is decided, unless it is already
  decides : Mark → Outcome → Change
  -- the core's own placing descriptor is created anew with these contents
  makes : Placing → Change

-- Clear puts back the new value if T succeeded, else the expected value.
abbrev pub cleared_to : Outcome → Entry → Word
cleared_to outcome.Succeeded e = word.Plain e.new
cleared_to (outcome.Failed i) e = word.Plain e.expected

-- Settle puts the operation's mark there if that was read undecided, else the expected value.
abbrev pub settled_to : Bool → Placing → Word
settled_to true p = word.Operation p.operation
settled_to false p = word.Plain p.expected

abbrev pub clear_change : Work → Outcome → Clearing → Change
clear_change t o clearing.Read = nothing
clear_change t o (clearing.Load e) = nothing
clear_change t o (clearing.Swap e) = swaps e.word (word.Operation t.operation) (cleared_to o e)

abbrev pub settle_change : Mark → Settling → Change
settle_change m settling.Read = nothing
settle_change m (settling.State p) = nothing
settle_change m (settling.Swap p undecided) = swaps p.word (word.Placing m) (settled_to undecided p)

abbrev pub step_change : Place → Change
step_change Idle = nothing
step_change (Finished v) = nothing
step_change (Look i) = nothing
step_change (Begin m) = nothing
step_change (Fetch t) = nothing
step_change (Make t e) = makes (record { operation = t.operation; word = e.word; expected = e.expected })
step_change (Try t e m) = swaps e.word (word.Plain e.expected) (word.Placing m)
step_change (Decide t o) = decides t.operation o
step_change (Clear t o c) = clear_change t o c
step_change (Settle m c k) = settle_change m c

-- The world after a change by core k.
abbrev pub change_world : World → ℕ → Change → World
change_world w k nothing = w
change_world w k (swaps i old new) = with_words w (swapped w.words i (raw_of old) (raw_of new))
change_world w k (decides m o) =
    cond (nat_lt m.core 8) (with_core w m.core (with_operation (core_at w m.core) (changed (λ p. with_outcome p o) (core_at w m.core).operation m.number))) w
change_world w k (makes p) = with_core w k (with_placing (core_at w k) (created (core_at w k).placing p))

-- Core k arrives at its next place.
abbrev pub arrive : World → ℕ → Place → World
arrive w k p = with_core w k (with_place (core_at w k) p)

-- the world after a granted step of core k
abbrev pub step_world : World → ℕ → World
step_world w k =
    arrive (change_world w k (step_change (core_at w k).place)) k (step_place w k (core_at w k).own (core_at w k).place)
