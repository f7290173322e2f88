use Rattle.std.proofs.Common.{◌≡◌, ℕ, ◌+◌, ◌^◌, ◌<◌, ◌≤◌, true, length, get_or}
use Rattle.word.specs.declared.Mark.{Mark}
use Rattle.word.specs.declared.Word.{Word}
use Rattle.word.specs.declared.Word.TheVariants as word
use Rattle.word.specs.Word.{reading_of}
use Rattle.entries.specs.declared.Entry.{Entry}
use Rattle.entries.specs.Lists.{entry_at}
use Rattle.descriptor.specs.declared.contents.Placing.{Placing}
use Rattle.descriptor.specs.Descriptors.{last_number}
use Rattle.cores.specs.declared.place.Then.{Then}
use Rattle.cores.specs.declared.place.Then.TheVariants as then
use Rattle.cores.specs.declared.place.Clearing.{Clearing}
use Rattle.cores.specs.declared.place.Clearing.TheVariants as clearing
use Rattle.cores.specs.declared.place.Settling.{Settling}
use Rattle.cores.specs.declared.place.Settling.TheVariants as settling
use Rattle.cores.specs.declared.place.Place.{Place}
use Rattle.cores.specs.declared.place.Place.TheVariants.{Idle, Finished, Look, Begin, Fetch, Make, Try, Decide, Clear, Settle}
use Rattle.cores.specs.declared.place.Own.{Own}
use Rattle.cores.specs.declared.place.Own.TheVariants as own
use Rattle.cores.specs.declared.table.Core.{Core}
use Rattle.model.specs.World.{World, core_at}
use Rattle.descriptor.specs.Contents.{entries_of}

-- What is in range in every run: values fit a plain word, words named are there, marks found have been made.

-- the numbers and the size that ranges are measured by: the first number, the last one taken of each kind on each core, the bank's size
pub record Bounds : Type 0 where
  pub first : ℕ
  pub operations : ℕ → ℕ
  pub placings : ℕ → ℕ
  pub size : ℕ

abbrev pub bounds : ℕ → World → Bounds
bounds first w = record { first = first; operations = λ k. (core_at w k).operation.last; placings = λ k. (core_at w k).placing.last; size = length w.words }

-- a mark that some creation made
abbrev pub KnownOperation : Bounds → Mark → Type 0
KnownOperation b m = (m.core < 8) × (b.first ≤ m.number) × (m.number ≤ b.operations m.core)

abbrev pub KnownPlacing : Bounds → Mark → Type 0
KnownPlacing b m = (m.core < 8) × (b.first ≤ m.number) × (m.number ≤ b.placings m.core)

abbrev pub EntryFits : Bounds → Entry → Type 0
EntryFits b e = (e.word < b.size) × (e.expected < 2 ^ 61) × (e.new < 2 ^ 61)

abbrev pub PlacingFits : Bounds → Placing → Type 0
PlacingFits b p = KnownOperation b p.operation × (p.word < b.size) × (p.expected < 2 ^ 61)

abbrev pub WordFits : Bounds → Word → Type 0
WordFits b (word.Plain v) = v < 2 ^ 61
WordFits b (word.Placing m) = KnownPlacing b m
WordFits b (word.Operation m) = KnownOperation b m
WordFits b (word.Foreign n) = ⊥

abbrev pub ThenFits : Bounds → Then → Type 0
ThenFits b (then.Look i) = i < b.size
ThenFits b (then.Next t) = KnownOperation b t.operation
ThenFits b (then.Try t e m) = KnownOperation b t.operation × EntryFits b e × KnownPlacing b m
ThenFits b (then.Clear t o e) = KnownOperation b t.operation × EntryFits b e

abbrev pub ClearingFits : Bounds → Clearing → Type 0
ClearingFits b clearing.Read = Unit {0}
ClearingFits b (clearing.Load e) = EntryFits b e
ClearingFits b (clearing.Swap e) = EntryFits b e

abbrev pub SettlingFits : Bounds → Settling → Type 0
SettlingFits b settling.Read = Unit {0}
SettlingFits b (settling.State p) = PlacingFits b p
SettlingFits b (settling.Swap p undecided) = PlacingFits b p

abbrev pub PlaceFits : Bounds → Place → Type 0
PlaceFits b Idle = Unit {0}
PlaceFits b (Finished v) = Unit {0}
PlaceFits b (Look i) = i < b.size
PlaceFits b (Begin m) = KnownOperation b m
PlaceFits b (Fetch t) = KnownOperation b t.operation
PlaceFits b (Make t e) = KnownOperation b t.operation × EntryFits b e
PlaceFits b (Try t e m) = KnownOperation b t.operation × EntryFits b e × KnownPlacing b m
PlaceFits b (Decide t o) = KnownOperation b t.operation
PlaceFits b (Clear t o c) = KnownOperation b t.operation × ClearingFits b c
PlaceFits b (Settle m c k) = KnownPlacing b m × SettlingFits b c × ThenFits b k

abbrev pub OwnFits : Bounds → Own → Type 0
OwnFits b own.Nothing = Unit {0}
OwnFits b (own.Read i) = i < b.size
OwnFits b (own.List m) = KnownOperation b m

pub record CoreFits (b : Bounds) (c : Core) : Type 0 where
  pub place : PlaceFits b c.place
  pub mine : OwnFits b c.own
  -- a core that runs something has created its operation
  pub started : (c.own ≡ own.Nothing → ⊥) → b.first ≤ c.operation.last
  pub entries : (j : ℕ) → j < length (entries_of c.operation.contents.list) → EntryFits b (entry_at (entries_of c.operation.contents.list) j)
  -- numbers lie from the one before the first up to the last of all
  pub from_first : (b.first ≤ c.operation.last + 1) × (b.first ≤ c.placing.last + 1)
  pub to_last : (c.operation.last ≤ last_number) × (c.placing.last ≤ last_number)
  -- the placing's contents fit once there was a creation; before that they name no mark
  pub contents : b.first ≤ c.placing.last → PlacingFits b c.placing.contents
  pub no_contents : c.placing.last < b.first → c.placing.contents.operation.number ≡ 0

pub record Ranged (first : ℕ) (w : World) : Type 0 where
  pub running : w.table.running ≡ true
  pub few : w.table.count ≤ 8
  pub eight : length w.table.cores ≡ 8
  pub first_number : (1 ≤ first) × (first ≤ last_number)
  pub words : (i : ℕ) → i < length w.words → WordFits (bounds first w) (reading_of (get_or w.words i 0))
  pub cores : (k : ℕ) → k < 8 → CoreFits (bounds first w) (core_at w k)
