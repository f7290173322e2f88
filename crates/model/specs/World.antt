use Rattle.std.specs.Prelude.{ℕ, cond, List, length, Some, None, Err, Option, Result, nat_lt, slice_index, slice_index_or, slice_set}
use Rattle.word.specs.declared.Mark.{Mark}
use Rattle.word.specs.declared.Word.{Word}
use Rattle.word.specs.Word.{reading_of}
use Rattle.descriptor.specs.declared.Overtaken.{Overtaken}
use Rattle.descriptor.specs.declared.contents.Operation.{Operation}
use Rattle.descriptor.specs.declared.contents.Placing.{Placing}
use Rattle.descriptor.specs.Descriptors.{reading}
use Rattle.cores.specs.Cores.{new_core}
use Rattle.cores.specs.declared.table.Core.{Core}
use Rattle.cores.specs.declared.table.Table.{Table}

-- All that a machine is: every raw word of its bank, and the core table.
pub record World : Type 0 where
  pub words : List ℕ
  pub table : Table

-- what core k keeps
abbrev pub core_at : World → ℕ → Core
core_at w k = slice_index_or w.table.cores k (new_core 0)

-- the word that raw word i says, if there is a word i
abbrev pub word_at : World → ℕ → Option Word
word_at w i = cond (nat_lt i (length w.words)) (Some (reading_of (slice_index w.words i))) None

-- what a read through an operation mark answers, and through a placing mark
abbrev pub operation_at : World → Mark → Result Operation Overtaken
operation_at w m = cond (nat_lt m.core 8) (reading (core_at w m.core).operation m.number) (Err (record {}))

abbrev pub placing_at : World → Mark → Result Placing Overtaken
placing_at w m = cond (nat_lt m.core 8) (reading (core_at w m.core).placing m.number) (Err (record {}))

-- The world with other words, another table, another core k.
abbrev pub with_words : World → List ℕ → World
with_words w ws = record { words = ws; table = w.table }

abbrev pub with_cores : Table → List Core → Table
with_cores t cs = record { running = t.running; count = t.count; protected = t.protected; rights = t.rights; cores = cs }

abbrev pub with_core : World → ℕ → Core → World
with_core w k c = record { words = w.words; table = with_cores w.table (slice_set w.table.cores k c) }
