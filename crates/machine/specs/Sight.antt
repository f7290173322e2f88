use Rattle.std.specs.Prelude.{ℕ, [], Ok, Err, Result}
use Rattle.word.specs.declared.Mark.{Mark}
use Rattle.descriptor.specs.declared.UsedUp.{UsedUp}
use Rattle.descriptor.specs.Descriptors.{creation}
use Rattle.cores.specs.Cores.{begin_read, entry_read, state_read}
use Rattle.cores.specs.declared.place.Place.{Place}
use Rattle.cores.specs.declared.place.Place.TheVariants.{Idle, Finished, Look, Begin, Fetch, Make, Try, Decide, Clear, Settle}
use Rattle.cores.specs.declared.place.Clearing.{Clearing}
use Rattle.cores.specs.declared.place.Clearing.TheVariants as clearing
use Rattle.cores.specs.declared.place.Settling.{Settling}
use Rattle.cores.specs.declared.place.Settling.TheVariants as settling
use Rattle.cores.specs.declared.place.Work.{Work}
use Rattle.cores.specs.declared.table.Table.{Table}
use Rattle.model.specs.World.{World, core_at, word_at, operation_at, placing_at}
use Rattle.machine.specs.declared.seen.Seen.{Seen}
use Rattle.machine.specs.declared.seen.Seen.TheVariants as seen

-- What the one access of a step sees, and no more than its rule reads.

-- a table alone, over no words: accesses of descriptors know no more
abbrev pub tabled : Table → World
tabled t = record { words = []; table = t }

-- the mark that a creation on core k made
abbrev pub mark_made : ℕ → Result ℕ UsedUp → Result Mark UsedUp
mark_made k (Ok n) = Ok (record { core = k; number = n })
mark_made k (Err u) = Err u

abbrev pub clear_sight : World → Work → Clearing → Seen
clear_sight w t clearing.Read = seen.Entry (entry_read t.index (operation_at w t.operation))
clear_sight w t (clearing.Load e) = seen.Word (word_at w e.word)
clear_sight w t (clearing.Swap e) = seen.Word (word_at w e.word)

abbrev pub settle_sight : World → Mark → Settling → Seen
settle_sight w m settling.Read = seen.Placing (placing_at w m)
settle_sight w m (settling.State p) = seen.State (state_read (operation_at w p.operation))
settle_sight w m (settling.Swap p u) = seen.Word (word_at w p.word)

abbrev pub sight : World → ℕ → Place → Seen
sight w k Idle = seen.Nothing
sight w k (Finished v) = seen.Nothing
sight w k (Look i) = seen.Word (word_at w i)
sight w k (Begin m) = seen.Operation (begin_read (operation_at w m))
sight w k (Fetch t) = seen.Entry (entry_read t.index (operation_at w t.operation))
sight w k (Make t e) = seen.Made (mark_made k (creation (core_at w k).placing))
sight w k (Try t e m) = seen.Word (word_at w e.word)
sight w k (Decide t o) = seen.State (state_read (operation_at w t.operation))
sight w k (Clear t o c) = clear_sight w t c
sight w k (Settle m c j) = settle_sight w m c
