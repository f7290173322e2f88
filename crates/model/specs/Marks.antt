use Rattle.std.specs.Prelude.{◌≡◌, ℕ, ◌+◌, ◌<◌, List, [], ◌∷◌, ◌++◌, length, Err, ◌≢◌, slice_index, slice_index_or}
use Rattle.word.specs.declared.Mark.{Mark}
use Rattle.word.specs.declared.Word.{Word}
use Rattle.word.specs.declared.Word.TheVariants as word
use Rattle.word.specs.Word.{reading_of, Made}
use Rattle.descriptor.specs.Descriptors.{reading, change_answer, changed}
use Rattle.descriptor.specs.declared.contents.Operation.{Operation}
use Rattle.descriptor.specs.declared.contents.Placing.{Placing}
use Rattle.cores.specs.declared.place.Then.{Then}
use Rattle.cores.specs.declared.place.Then.TheVariants as then
use Rattle.cores.specs.declared.place.Settling.{Settling}
use Rattle.cores.specs.declared.place.Settling.TheVariants as settling
use Rattle.cores.specs.declared.place.Place.{Place}
use Rattle.cores.specs.declared.place.Place.TheVariants.{Idle, Finished, Look, Begin, Fetch, Make, Try, Decide, Clear, Settle}
use Rattle.cores.specs.declared.place.Own.TheVariants as own
use Rattle.model.specs.World.{World, core_at}
use Rattle.model.specs.Histories.{History, world_at}

-- Marks in a history: where one is found, which call created it, when it is overtaken.

-- a mark with its kind
pub data Marked : Type 0 where
  placing : Mark → Marked
  operation : Mark → Marked

abbrev pub mark_of : Marked → Mark
mark_of (placing m) = m
mark_of (operation m) = m

-- the word that is such a mark
abbrev pub as_word : Marked → Word
as_word (placing m) = word.Placing m
as_word (operation m) = word.Operation m

-- The marks that a place holds.
abbrev pub marks_in_then : Then → List Marked
marks_in_then (then.Look i) = []
marks_in_then (then.Next t) = operation t.operation ∷ []
marks_in_then (then.Try t e m) = operation t.operation ∷ (placing m ∷ [])
marks_in_then (then.Clear t o e) = operation t.operation ∷ []

abbrev pub marks_in_settling : Settling → List Marked
marks_in_settling settling.Read = []
marks_in_settling (settling.State p) = operation p.operation ∷ []
marks_in_settling (settling.Swap p u) = operation p.operation ∷ []

abbrev pub marks_in : Place → List Marked
marks_in Idle = []
marks_in (Finished v) = []
marks_in (Look i) = []
marks_in (Begin m) = operation m ∷ []
marks_in (Fetch t) = operation t.operation ∷ []
marks_in (Make t e) = operation t.operation ∷ []
marks_in (Try t e m) = operation t.operation ∷ (placing m ∷ [])
marks_in (Decide t o) = operation t.operation ∷ []
marks_in (Clear t o c) = operation t.operation ∷ []
marks_in (Settle m c k) = placing m ∷ (marks_in_settling c ++ marks_in_then k)

-- A mark is found in a raw word, in a core's place, as the mark of a core's own operation, or in a descriptor.
pub data Found (w : World) : Marked → Type 0 where
  in_word : {m : Marked} (i : ℕ) → i < length w.words → reading_of (slice_index w.words i) ≡ as_word m → Found w m
  in_place : {m : Marked} (k j : ℕ) → k < 8 → j < length (marks_in (core_at w k).place) → slice_index_or (marks_in (core_at w k).place) j m ≡ m → Found w m
  own_operation : (k : ℕ) → k < 8 → ((core_at w k).own ≢ own.Nothing) → Found w (operation (record { core = k; number = (core_at w k).operation.last }))
  in_descriptor : (k : ℕ) → k < 8 → Made (core_at w k).placing.contents.operation → Found w (operation (core_at w k).placing.contents.operation)

-- the last number taken by the descriptor of this mark's kind and core
abbrev pub last_of : World → Marked → ℕ
last_of w (placing m) = (core_at w m.core).placing.last
last_of w (operation m) = (core_at w m.core).operation.last

-- Call t created the mark: its number was the next of its kind on its core, and is taken after the call.
pub record Creates (h : History) (t : ℕ) (m : Marked) : Type 0 where
  pub there : t < length h.calls
  pub next : last_of (world_at h t) m + 1 ≡ (mark_of m).number
  pub taken : last_of (world_at h (t + 1)) m ≡ (mark_of m).number

-- two marks of one kind on one core
pub data SameDescriptor : Marked → Marked → Type 0 where
  placings : {m n : Mark} → m.core ≡ n.core → SameDescriptor (placing m) (placing n)
  operations : {m n : Mark} → m.core ≡ n.core → SameDescriptor (operation m) (operation n)

-- The mark is overtaken after the first t calls: after its creation there was another of its kind on its core.
pub record OvertakenAt (h : History) (t : ℕ) (m : Marked) : Type 0 where
  pub made_at : ℕ
  pub made : Creates h made_at m
  pub overtaker : Marked
  pub same_descriptor : SameDescriptor m overtaker
  pub overtaken_at : ℕ
  pub overtook : Creates h overtaken_at overtaker
  pub in_order : (made_at < overtaken_at) × (overtaken_at < t)

-- A read and a change through the mark answer "overtaken".
abbrev pub AnswersOvertaken : World → Marked → Type 0
AnswersOvertaken w (placing m) =
    (reading (core_at w m.core).placing m.number ≡ Err (record {})) × (change_answer (core_at w m.core).placing m.number ≡ Err (record {}))
AnswersOvertaken w (operation m) =
    (reading (core_at w m.core).operation m.number ≡ Err (record {})) × (change_answer (core_at w m.core).operation m.number ≡ Err (record {}))

-- No change through the mark alters its descriptor.
abbrev pub AltersNothing : World → Marked → Type 0
AltersNothing w (placing m) = (f : Placing → Placing) → changed f (core_at w m.core).placing m.number ≡ (core_at w m.core).placing
AltersNothing w (operation m) = (f : Operation → Operation) → changed f (core_at w m.core).operation m.number ≡ (core_at w m.core).operation
